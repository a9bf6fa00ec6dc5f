-- What a question about the tables comes to, over the files of a desk.
use Rattle.std.specs.Prelude.{◌≡◌, ⊤, ℕ, Bool, true, List, [], Option, Some, None, Result, Ok, Err}
use Rattle.mss_model.specs.declared.faults.TableFault.{TableFault}
use Rattle.mss_model.specs.declared.parts.TableParts.{TableParts}
use Rattle.mss_desk.specs.Desk.{Files}
use Rattle.mss_report.specs.Faults.{fault_text_of}
use Rattle.mss_command.specs.declared.status.Status.{Status}
use Rattle.mss_command.specs.declared.status.Status.TheVariants as statuses
use Rattle.mss_command.specs.Fetched.{Fetched, Missing, Bytes, fetched}
use Rattle.mss_command.specs.Outcome.{Outcome, saying}
use Rattle.mss_command.specs.Tables.{tables_on}

-- the file that a question reads beside the tables, as it is read; no bytes where it reads none
abbrev pub wanted : Option (List ℕ) → ℕ → Files → Fetched
wanted None limit files = Bytes []
wanted (Some name) limit files = fetched limit files name

-- the file that a question reads isn't there
abbrev pub WantedLacks : Option (List ℕ) → ℕ → Files → Type 0
WantedLacks name limit files = wanted name limit files ≡ Missing

-- what a question with these answers comes to under these tables
abbrev pub AsksUnder : (TableParts → Fetched → Outcome → Type 0) → TableParts → Option (List ℕ) → ℕ → Files → Outcome → Type 0
AsksUnder answers tables name limit files o = answers tables (wanted name limit files) o

-- what is said where the tables and the other file read like this: the answer under the tables, or their first fault
abbrev pub AsksRead : (TableParts → Fetched → Outcome → Type 0) → Option (Result TableParts TableFault) → Fetched → Outcome → Type 0
AsksRead answers (Some (Ok tables)) file o = answers tables file o
AsksRead answers (Some (Err fault)) file o = o ≡ saying statuses.Tables (fault_text_of fault)
AsksRead answers None file o = ⊥

-- what a question with these answers comes to, which reads this file beside the tables
abbrev pub Asks : (TableParts → Fetched → Outcome → Type 0) → Option (List ℕ) → ℕ → Files → Outcome → Type 0
Asks answers name limit files o = AsksRead answers (tables_on files) (wanted name limit files) o

-- a file of the tables isn't there; or they have no fault, and the other file isn't there
abbrev pub LacksRead : Option (Result TableParts TableFault) → Fetched → Type 0
LacksRead (Some (Ok tables)) file = file ≡ Missing
LacksRead (Some (Err fault)) file = ⊥
LacksRead None file = ⊤

abbrev pub AskLacks : Option (List ℕ) → ℕ → Files → Type 0
AskLacks name limit files = LacksRead (tables_on files) (wanted name limit files)

-- the statuses with which a question may end that may be answered with these: a refusal of the tables too
abbrev pub may_end_asking : (Status → Bool) → Status → Bool
may_end_asking may_answer statuses.Tables = true
may_end_asking may_answer status = may_answer status
