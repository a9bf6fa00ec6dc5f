-- The lower number that `cycle` and `new` print is accepted by `check` over the files that they leave.
use Rattle.std.proofs.Common.{◌≡◌, ◌∙◌, ℕ, ◌<◌, ◌≤◌, List, length, Some, inl, inr, refl, ap, arith}
use Rattle.std.specs.FinMap.{get, insert}
use Rattle.mss_model.specs.declared.parts.TableParts.{TableParts}
use Rattle.mss_desk.specs.Desk.{Content, Files}
use Rattle.mss_command.specs.declared.status.Status.{Status}
use Rattle.mss_command.specs.declared.status.Status.TheVariants as statuses
use Rattle.mss_command.specs.Answers.{Comes}
use Rattle.mss_command.specs.GatheredLaws.{still_stored, stored_read}
use Rattle.mss_command.specs.Outcome.{Outcome, saying}
use Rattle.mss_command.specs.PutFacts.{get_same}
use Rattle.mss_command.specs.Questions.{AskLacks, Asks}
use Rattle.mss_command.specs.Tables.{StoresTables}
use Rattle.mss_timetable.specs.Check.{CheckDefines, StoresShown}
use Rattle.mss_timetable.specs.CheckTexts.{accepted_text}
use Rattle.mss_timetable.specs.Exactness.{comes_to_done, each_shown}
use Rattle.mss_timetable.specs.Improves.{PrintedImprovement, files_of, improved_file}
use Rattle.mss_timetable.specs.Lower.{IsShownBy, ShowsNumber, weights_file, weights_limit}

-- a number above 0 has a text that shows it
has_text : (tables : TableParts) (number : ℕ) (bytes : List ℕ) → 0 < number → IsShownBy tables number bytes
    → ShowsNumber tables number bytes × (length bytes ≤ weights_limit)
has_text tables number bytes above (inl none) = absurd (omega (arith, above, none.0))
has_text tables number bytes above (inr shown) = shown

module _ (tables : TableParts) (tries : ℕ) (start : List ℕ) (before after : Files) (text : List ℕ) (stored : StoresTables before tables)
    (p : PrintedImprovement tables tries start before after text) (above : 0 < p.summary.lower) where
  weights_stored : get after weights_file ≡ Some p.weights
  weights_stored = ap (λ (m : Files). get m weights_file) p.files ∙ get_same (insert before improved_file p.improved) weights_file p.weights

  -- the files that are left hold weights that show the number under the same tables
  pub improved_is_shown : StoresShown after p.summary.lower
  improved_is_shown =
      let shown = has_text tables p.summary.lower p.weights above p.shown in
      record {
        tables = tables;
        stored = still_stored (files_of p.improved p.weights) before after tables refl p.files stored;
        bytes = p.weights;
        read = stored_read weights_limit (get after weights_file) p.weights weights_stored shown.1;
        good = shown.0;
      }

  -- all that `check` can come to over them is to say that number
  pub improved_is_said : (o : Outcome) → Asks CheckDefines (Some weights_file) weights_limit after o → o ≡ saying statuses.Done (accepted_text p.summary.lower)
  improved_is_said o known = each_shown after p.summary.lower o improved_is_shown known

-- and where nothing fails and memory is found, it comes to status 0
pub improved_is_accepted : (tables : TableParts) (tries : ℕ) (start : List ℕ) (before : Files) (c : Content) (text : List ℕ) (ended : Status) → StoresTables before tables
    → (p : PrintedImprovement tables tries start before c.files text) → 0 < p.summary.lower
    → Comes (Asks CheckDefines (Some weights_file) weights_limit) (AskLacks (Some weights_file) weights_limit) ended c → ended ≡ statuses.Done
improved_is_accepted tables tries start before c text ended stored p above comes =
    comes_to_done c p.summary.lower ended (improved_is_shown tables tries start before c.files text stored p above) comes
