-- What the command `check` comes to, and what it promises.
use Rattle.std.specs.Prelude.{◌≡◌, ◌⊎◌, ℕ, List, IsTrue, codes}
use Rattle.mss_model.specs.declared.parts.TableParts.{TableParts}
use Rattle.mss_desk.specs.Desk.{Files}
use Rattle.mss_weights.specs.declared.faults.WeightsFault.{WeightsFault}
use Rattle.mss_weights.specs.declared.faults.WeightsKind.TheVariants as kinds
use Rattle.mss_weights.specs.declared.weights.Weights.{Weights}
use Rattle.mss_weights.specs.Shown.{is_shown}
use Rattle.mss_weights.specs.WeightsFaults.{IsFaultAt}
use Rattle.mss_weights.specs.WeightsText.{IsShort, weights_text}
use Rattle.mss_command.specs.declared.status.Status.TheVariants as statuses
use Rattle.mss_command.specs.Checks.{ChecksText, Format, StoresGood}
use Rattle.mss_command.specs.Fetched.{Fetched}
use Rattle.mss_command.specs.Lower.{EachPeaksAt, TellsLower}
use Rattle.mss_command.specs.Outcome.{Outcome, saying}
use Rattle.mss_command.specs.Tables.{StoresTables}
use Rattle.mss_timetable.specs.CheckTexts.{accepted_text, fault_text_of, not_shown_text}
use Rattle.mss_timetable.specs.Lower.{ShowsNumber, weights_file, weights_limit}

-- ---- what is said

-- the weights show their number under these tables, and it is said
pub record AcceptsWeights (tables : TableParts) (weights : Weights) (o : Outcome) : Type 0 where
  pub shown : IsTrue (is_shown tables weights)
  pub lower : EachPeaksAt tables weights.number
  pub accepts : o ≡ saying statuses.Done (accepted_text weights.number)

-- the weights don't show their number under these tables
pub record RefusesWeights (tables : TableParts) (weights : Weights) (o : Outcome) : Type 0 where
  pub not_shown : ¬ IsTrue (is_shown tables weights)
  pub refuses : o ≡ saying statuses.Certificate not_shown_text

-- what is said of weights under these tables
abbrev pub VerdictDefines : TableParts → Weights → Outcome → Type 0
VerdictDefines tables weights o = AcceptsWeights tables weights o ⊎ RefusesWeights tables weights o

-- weights.txt means the weights of which it is the text, or has a first fault
abbrev pub weights_format : Format Weights WeightsFault
weights_format = record {
  Means = λ bytes weights. IsShort weights × (bytes ≡ weights_text weights);
  IsFirst = λ bytes fault. IsFaultAt bytes fault.kind fault.line;
  fault_text = fault_text_of;
  too_long = record { line = 0; kind = kinds.TooLong };
}

-- what is said under these tables where weights.txt was read like this
abbrev pub CheckDefines : TableParts → Fetched → Outcome → Type 0
CheckDefines tables file o = ChecksText weights_format (VerdictDefines tables) file o

-- ---- what is promised

-- The text says a number, and each legal cycle of the tables that the ten files mean peaks at least at it, whoever made
-- the weights.
pub record SaysLower (files : Files) (text : List ℕ) : Type 0 where
  pub tables : TableParts
  pub stored : StoresTables files tables
  pub tells : TellsLower (codes "weights accepted: every legal cycle peaks at least at ") tables text

-- ---- what is accepted

-- The ten files are stored, each within its limit, and mean tables; weights.txt is stored within its own, and is the text of
-- weights that show this number under them.
abbrev pub StoresShown : Files → ℕ → Type 0
StoresShown files number = StoresGood weights_file weights_limit (λ tables bytes. ShowsNumber tables number bytes) files
