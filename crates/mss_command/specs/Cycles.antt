-- What is said of the cycle of cycle.csv, and the text of a cycle.
use Rattle.std.specs.Prelude.{◌≡◌, ◌⊎◌, ℕ, List, Some, Ok, Err, codes}
use Rattle.std.specs.FinMap.{get}
use Rattle.mss_model.specs.Legality.{IsLegal, broken_rule}
use Rattle.mss_model.specs.declared.faults.CycleFault.{CycleFault}
use Rattle.mss_model.specs.declared.faults.Kind.TheVariants as kinds
use Rattle.mss_model.specs.declared.parts.TableParts.{TableParts}
use Rattle.mss_desk.specs.Desk.{Files}
use Rattle.mss_tables.specs.CycleFile.{cycle_at}
use Rattle.mss_tables.specs.CycleText.{cycle_text_of}
use Rattle.mss_report.specs.Faults.{cycle_fault_text_of, rule_text_of}
use Rattle.mss_command.specs.declared.status.Status.TheVariants as statuses
use Rattle.mss_command.specs.Fetched.{Fetched, Missing, TooLong, Bytes}
use Rattle.mss_command.specs.Outcome.{Outcome, saying}

abbrev pub cycle_file : List ℕ
cycle_file = codes "cycle.csv"

-- the bytes are the text of the cycle, and are read back as it
pub record IsTextOf (tables : TableParts) (cycle bytes : List ℕ) : Type 0 where
  pub text : bytes ≡ cycle_text_of tables cycle
  pub back : cycle_at tables bytes ≡ Ok cycle

-- the first fault of the cycle under these tables is said
pub record RefusesFault (tables : TableParts) (bytes : List ℕ) (o : Outcome) : Type 0 where
  pub fault : CycleFault
  pub first : cycle_at tables bytes ≡ Err (record { row = fault.row; kind = fault.kind })
  pub refuses : o ≡ saying statuses.Cycle (cycle_fault_text_of fault)

-- the cycle isn't legal under these tables, and the least rule that it breaks is said
pub record RefusesIllegal (tables : TableParts) (cycle : List ℕ) (o : Outcome) : Type 0 where
  pub illegal : ¬ IsLegal tables cycle
  pub rule : ℕ
  pub broken : broken_rule tables cycle ≡ Some rule
  pub refuses : o ≡ saying statuses.Cycle (rule_text_of rule)

-- the cycle that the file means under these tables isn't legal
pub record RefusesRule (tables : TableParts) (bytes : List ℕ) (o : Outcome) : Type 0 where
  pub cycle : List ℕ
  pub means : cycle_at tables bytes ≡ Ok cycle
  pub illegal : RefusesIllegal tables cycle o

-- cycle.csv was read like this, and is refused
abbrev pub RefusesCycle : TableParts → Fetched → Outcome → Type 0
RefusesCycle tables Missing o = ⊥
RefusesCycle tables TooLong o = o ≡ saying statuses.Cycle (cycle_fault_text_of (record { row = 0; kind = kinds.TooLong }))
RefusesCycle tables (Bytes bytes) o = RefusesFault tables bytes o ⊎ RefusesRule tables bytes o

-- the file means this cycle under these tables, and it is legal
pub record MeansLegal (tables : TableParts) (bytes cycle : List ℕ) : Type 0 where
  pub means : cycle_at tables bytes ≡ Ok cycle
  pub legal : IsLegal tables cycle

-- cycle.csv was read like this, and this is the legal cycle that it means
abbrev pub GivesLegal : TableParts → Fetched → List ℕ → Type 0
GivesLegal tables Missing cycle = ⊥
GivesLegal tables TooLong cycle = ⊥
GivesLegal tables (Bytes bytes) cycle = MeansLegal tables bytes cycle

-- cycle.csv gives a legal cycle, which is answered
pub record AnswersCycle (answers : List ℕ → Outcome → Type 0) (tables : TableParts) (file : Fetched) (o : Outcome) : Type 0 where
  pub cycle : List ℕ
  pub given : GivesLegal tables file cycle
  pub answered : answers cycle o

-- what a question about the cycle of cycle.csv comes to, which gives these answers to a legal one
abbrev pub AsksCycle : (List ℕ → Outcome → Type 0) → TableParts → Fetched → Outcome → Type 0
AsksCycle answers tables file o = AnswersCycle answers tables file o ⊎ RefusesCycle tables file o

-- cycle.csv is stored, and means this legal cycle under these tables
pub record IsStoredCycle (files : Files) (tables : TableParts) (cycle : List ℕ) : Type 0 where
  pub bytes : List ℕ
  pub stored : get files cycle_file ≡ Some bytes
  pub means : MeansLegal tables bytes cycle
