-- A question about the cycle of cycle.csv comes to one outcome.
use Rattle.std.proofs.Common.{◌≡◌, ℕ, List, Some, inl, inr, sym, ap, subst, ◌∙◌}
use Rattle.mss_model.specs.Legality.{IsLegal}
use Rattle.mss_model.specs.declared.parts.TableParts.{TableParts}
use Rattle.mss_rows.specs.declared.refusal.Fault.{Fault}
use Rattle.mss_tables.specs.CycleFile.{cycle_at}
use Rattle.mss_report.specs.Faults.{cycle_fault_text_of, rule_text_of}
use Rattle.mss_command.specs.declared.status.Status.TheVariants as statuses
use Rattle.mss_command.specs.Cycles.{AsksCycle, GivesLegal, RefusesCycle, RefusesFault, RefusesIllegal}
use Rattle.mss_command.specs.Fetched.{Fetched, Missing, TooLong, Bytes}
use Rattle.mss_command.specs.Outcome.{Outcome, saying}
use Rattle.mss_command.specs.ReadingLaws.{meaning_or_fault, same_fault, same_meaning}

-- the fault that a refusal tells, as that of a reading
abbrev fault_of : {tables : TableParts} {bytes : List ℕ} {o : Outcome} → RefusesFault tables bytes o → Fault
fault_of r = record { row = r.fault.row; kind = r.fault.kind }

-- a file gives one legal cycle, or is refused
same_given : (tables : TableParts) (file : Fetched) (c d : List ℕ) → GivesLegal tables file c → GivesLegal tables file d → c ≡ d
same_given tables Missing c d a b = absurd a
same_given tables TooLong c d a b = absurd a
same_given tables (Bytes bytes) c d a b = same_meaning c d (cycle_at tables bytes) a.means b.means

given_or_refused : (tables : TableParts) (file : Fetched) (c : List ℕ) (o : Outcome) → GivesLegal tables file c → RefusesCycle tables file o → ⊥
given_or_refused tables Missing c o given refused = given
given_or_refused tables TooLong c o given refused = given
given_or_refused tables (Bytes bytes) c o given (inl r) = meaning_or_fault c (fault_of r) (cycle_at tables bytes) given.means r.first
given_or_refused tables (Bytes bytes) c o given (inr r) =
    r.illegal.illegal (subst (IsLegal tables) (same_meaning c r.cycle (cycle_at tables bytes) given.means r.means) given.legal)

-- the refusal is one
same_illegal : (tables : TableParts) (cycle : List ℕ) (o p : Outcome) → RefusesIllegal tables cycle o → RefusesIllegal tables cycle p → o ≡ p
same_illegal tables cycle o p r s =
    let rules : Some r.rule ≡ Some s.rule = sym r.broken ∙ s.broken in
    let rule : r.rule ≡ s.rule = cc in
    r.refuses ∙ ap (λ n. saying statuses.Cycle (rule_text_of n)) rule ∙ sym s.refuses

abbrev told : Fault → Outcome
told fault = saying statuses.Cycle (cycle_fault_text_of (record { row = fault.row; kind = fault.kind }))

same_refusal : (tables : TableParts) (file : Fetched) (o p : Outcome) → RefusesCycle tables file o → RefusesCycle tables file p → o ≡ p
same_refusal tables Missing o p r s = absurd r
same_refusal tables TooLong o p r s = r ∙ sym s
same_refusal tables (Bytes bytes) o p (inl r) (inl s) =
    r.refuses ∙ ap told (same_fault (fault_of r) (fault_of s) (cycle_at tables bytes) r.first s.first) ∙ sym s.refuses
same_refusal tables (Bytes bytes) o p (inl r) (inr s) = absurd (meaning_or_fault s.cycle (fault_of r) (cycle_at tables bytes) s.means r.first)
same_refusal tables (Bytes bytes) o p (inr r) (inl s) = absurd (meaning_or_fault r.cycle (fault_of s) (cycle_at tables bytes) r.means s.first)
same_refusal tables (Bytes bytes) o p (inr r) (inr s) =
    let same : r.cycle ≡ s.cycle = same_meaning r.cycle s.cycle (cycle_at tables bytes) r.means s.means in
    same_illegal tables s.cycle o p (subst (λ c. RefusesIllegal tables c o) same r.illegal) s.illegal

-- where the answers to a legal cycle are one
pub one_cycle : (answers : List ℕ → Outcome → Type 0) (tables : TableParts) (file : Fetched) (o p : Outcome)
    → ((cycle : List ℕ) (o p : Outcome) → answers cycle o → answers cycle p → o ≡ p) → AsksCycle answers tables file o → AsksCycle answers tables file p → o ≡ p
one_cycle answers tables file o p one (inl a) (inl b) =
    one b.cycle o p (subst (λ c. answers c o) (same_given tables file a.cycle b.cycle a.given b.given) a.answered) b.answered
one_cycle answers tables file o p one (inl a) (inr s) = absurd (given_or_refused tables file a.cycle p a.given s)
one_cycle answers tables file o p one (inr r) (inl b) = absurd (given_or_refused tables file b.cycle o b.given r)
one_cycle answers tables file o p one (inr r) (inr s) = same_refusal tables file o p r s
