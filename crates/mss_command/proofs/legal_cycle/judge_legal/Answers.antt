use Rattle.std.proofs.Common.{◌≡◌, Some, None, refl, sym}
use Rattle.mss_model.specs.Legality.{broken_rule}
use Rattle.mss_model.specs.PartsOf.{parts_of}
use Rattle.mss_rules.specs.LegalLaws.{full_of}
use Rattle.mss_command.specs.Outcome.{outcome_of}
use Rattle.mss_command.proofs.CyclesJudged.{refuses}
use Rattle.mss_command.proofs.legal_cycle.judge_legal.Goals as goal

pub returns-in_ok-rule_refusal-in-Some-clause-judges : goal.returns-in_ok-rule_refusal-in-Some-clause-judges
returns-in_ok-rule_refusal-in-Some-clause-judges c =
    let broken : broken_rule (parts_of c.args.tables.now) c.args.cycle ≡ Some c.in-Some.rule = rw c.options.ensures at (sym c.in-Some.ensures) in
    refuses (parts_of c.args.tables.now) c.args.cycle c.in-Some.rule (outcome_of c.in_ok-rule_refusal-in-Some.field-0) broken c.in_ok-rule_refusal-in-Some.ensures.outcome

pub returns-in-None-clause-judges : goal.returns-in-None-clause-judges
returns-in-None-clause-judges c =
    let none : broken_rule (parts_of c.args.tables.now) c.args.cycle ≡ None = rw c.options.ensures at (sym c.in-None.ensures) in
    (refl, full_of (parts_of c.args.tables.now) c.args.cycle c.requires.slots c.requires.options none)
