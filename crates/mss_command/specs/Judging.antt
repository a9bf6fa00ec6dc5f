-- What is made of the files of the tables, and of the file of a cycle.
use Rattle.std.specs.Prelude.{◌≡◌, ⊤, ℕ, List, Option, Some, Result, Ok, Err}
use Rattle.mss_model.specs.Legality.{IsLegal}
use Rattle.mss_model.specs.PartsOf.{parts_of}
use Rattle.mss_model.specs.declared.faults.TableFault.{TableFault}
use Rattle.mss_model.specs.declared.parts.TableParts.{TableParts}
use Rattle.mss_report.specs.Faults.{fault_text_of}
use Rattle.mss_command.specs.declared.legal_cycle.JudgedCycle.{JudgedCycle}
use Rattle.mss_command.specs.declared.legal_cycle.JudgedCycle.TheVariants as judged
use Rattle.mss_command.specs.declared.status.Status.TheVariants as statuses
use Rattle.mss_command.specs.declared.tables.Judged.{Judged}
use Rattle.mss_command.specs.declared.tables.Judged.TheVariants as judged_tables
use Rattle.mss_command.specs.Cycles.{GivesLegal, RefusesCycle, RefusesIllegal}
use Rattle.mss_command.specs.Fetched.{Fetched}
use Rattle.mss_command.specs.Gathered.{Gathered}
use Rattle.mss_command.specs.Outcome.{Outcome, outcome_of, saying}
use Rattle.mss_command.specs.Tables.{tables_gathered}

-- ---- the tables

-- the first fault of the tables as they read is said
pub record RefusesTables (reading : Option (Result TableParts TableFault)) (o : Outcome) : Type 0 where
  pub fault : TableFault
  pub first : reading ≡ Some (Err fault)
  pub refuses : o ≡ saying statuses.Tables (fault_text_of fault)

-- what is made of the files as they were gathered
abbrev pub Judges : Gathered → Judged → Type 0
Judges g (judged_tables.Tables tables) = tables_gathered g ≡ Some (Ok (parts_of tables))
Judges g (judged_tables.Refused reply) = RefusesTables (tables_gathered g) (outcome_of reply)

-- a refusal has the status of refused tables
abbrev pub RefusesAsTables : Judged → Type 0
RefusesAsTables (judged_tables.Tables tables) = ⊤
RefusesAsTables (judged_tables.Refused reply) = reply.status ≡ statuses.Tables

-- ---- a cycle

-- from the file as it was read
abbrev pub JudgesCycle : TableParts → Fetched → JudgedCycle → Type 0
JudgesCycle tables file (judged.Legal cycle) = GivesLegal tables file cycle
JudgesCycle tables file (judged.Refused reply) = RefusesCycle tables file (outcome_of reply)

-- from a cycle that was read
abbrev pub JudgesLegal : TableParts → List ℕ → JudgedCycle → Type 0
JudgesLegal tables cycle (judged.Legal same) = (same ≡ cycle) × IsLegal tables cycle
JudgesLegal tables cycle (judged.Refused reply) = RefusesIllegal tables cycle (outcome_of reply)

-- a refusal has the status of a refused cycle
abbrev pub RefusesAsCycle : JudgedCycle → Type 0
RefusesAsCycle (judged.Legal cycle) = ⊤
RefusesAsCycle (judged.Refused reply) = reply.status ≡ statuses.Cycle
