-- What is made of a cycle that was read, by the rule that it breaks.
use Rattle.std.proofs.Common.{◌≡◌, ℕ, List, [], Some, None, Ok, inr, sym, ap, subst, ◌∙◌}
use Rattle.std.proofs.lemmas.List.{append-nil}
use Rattle.mss_model.specs.declared.parts.TableParts.{TableParts}
use Rattle.mss_model.specs.Legality.{IsLegal, broken_rule}
use Rattle.mss_rules.specs.LegalLaws.{alive_of}
use Rattle.mss_report.specs.Faults.{rule_text_of}
use Rattle.mss_command.specs.declared.status.Status.TheVariants as statuses
use Rattle.mss_command.specs.Cycles.{RefusesIllegal}
use Rattle.mss_command.specs.Judging.{JudgesCycle, JudgesLegal}
use Rattle.mss_command.specs.declared.legal_cycle.JudgedCycle.{JudgedCycle}
use Rattle.mss_command.specs.declared.legal_cycle.JudgedCycle.TheVariants as judged
use Rattle.mss_command.specs.Fetched.{Bytes}
use Rattle.mss_tables.specs.CycleFile.{cycle_at}
use Rattle.mss_command.specs.Outcome.{Outcome, saying}

pub refuses : (tables : TableParts) (cycle : List ℕ) (rule : ℕ) (o : Outcome) → broken_rule tables cycle ≡ Some rule → o ≡ saying statuses.Cycle (rule_text_of rule)
    → RefusesIllegal tables cycle o
refuses tables cycle rule o broken is = record {
  illegal = λ legal. let none : broken_rule tables cycle ≡ None = alive_of tables cycle [] (rw append-nil legal) in let bad : Some rule ≡ None = sym broken ∙ none in cc;
  rule = rule;
  broken = broken;
  refuses = is;
}

-- what is made of a cycle is made of the file that means it
pub judged_file : (tables : TableParts) (bytes cycle : List ℕ) (j : JudgedCycle) → cycle_at tables bytes ≡ Ok cycle → JudgesLegal tables cycle j → JudgesCycle tables (Bytes bytes) j
judged_file tables bytes cycle (judged.Legal same) means known =
    record { means = means ∙ ap Ok (sym known.0); legal = subst (IsLegal tables) (sym known.0) known.1 }
judged_file tables bytes cycle (judged.Refused reply) means known = inr (record { cycle = cycle; means = means; illegal = known })
