-- What commands have in common that check a file beside the tables: its text means a value, of which something is said, or
-- has a first fault.
use Rattle.std.specs.Prelude.{◌≡◌, ◌⊎◌, ℕ, Bool, true, false, List}
use Rattle.mss_model.specs.declared.parts.TableParts.{TableParts}
use Rattle.mss_desk.specs.Desk.{Files}
use Rattle.mss_command.specs.declared.status.Status.{Status}
use Rattle.mss_command.specs.declared.status.Status.TheVariants as statuses
use Rattle.mss_command.specs.Fetched.{Fetched, Missing, TooLong, Bytes, fetched}
use Rattle.mss_command.specs.Outcome.{Outcome, saying}
use Rattle.mss_command.specs.Tables.{StoresTables}

-- A format of texts: the value that bytes mean, or their first fault; how a fault is said; and the fault of a file that is
-- longer than its limit.
pub record Format (T F : Type 0) : Type 1 where
  pub Means : List ℕ → T → Type 0
  pub IsFirst : List ℕ → F → Type 0
  pub fault_text : F → List ℕ
  pub too_long : F

-- the bytes mean a value, of which this is said
pub record SaysOfText {T F : Type 0} (format : Format T F) (says : T → Outcome → Type 0) (bytes : List ℕ) (o : Outcome) : Type 0 where
  pub value : T
  pub means : format.Means bytes value
  pub said : says value o

-- the bytes mean no value, and their first fault is said
pub record RefusesText {T F : Type 0} (format : Format T F) (bytes : List ℕ) (o : Outcome) : Type 0 where
  pub fault : F
  pub first : format.IsFirst bytes fault
  pub refuses : o ≡ saying statuses.Certificate (format.fault_text fault)

-- what is said where the file was read like this
abbrev pub ChecksText : {T F : Type 0} → Format T F → (T → Outcome → Type 0) → Fetched → Outcome → Type 0
ChecksText format says Missing o = ⊥
ChecksText format says TooLong o = o ≡ saying statuses.Certificate (format.fault_text format.too_long)
ChecksText format says (Bytes bytes) o = SaysOfText format says bytes o ⊎ RefusesText format bytes o

abbrev pub check_may_answer : Status → Bool
check_may_answer statuses.Done = true
check_may_answer statuses.Certificate = true
check_may_answer _ = false

-- The ten files are stored, each within its limit, and mean tables; the file with this name is stored within its own, and
-- its bytes are good under them.
pub record StoresGood (name : List ℕ) (limit : ℕ) (IsGood : TableParts → List ℕ → Type 0) (files : Files) : Type 0 where
  pub tables : TableParts
  pub stored : StoresTables files tables
  pub bytes : List ℕ
  pub read : fetched limit files name ≡ Bytes bytes
  pub good : IsGood tables bytes
