-- What a question about the cycle of cycle.csv came to keeps what its answers keep; and the text of a cycle is read back.
use Rattle.std.proofs.Common.{◌≡◌, ℕ, Bool, true, false, cond, ltb, List, [], length, Option, Some, None, Result, Ok, Err, inl, inr, refl, sym, ap, ◌∙◌}
use Rattle.std.specs.FinMap.{get}
use Rattle.std.specs.Result.{result_err, result_unwrap_or}
use Rattle.std.proofs.lemmas.Option.{none-some}
use Rattle.mss_model.specs.declared.parts.TableParts.{TableParts}
use Rattle.mss_desk.specs.Desk.{Files}
use Rattle.mss_tables.specs.CycleFile.{cycle_at, cycle_fault, cycle_in}
use Rattle.mss_tables.specs.CycleText.{cycle_text_of}
use Rattle.mss_command.specs.declared.status.Status.TheVariants as statuses
use Rattle.mss_command.specs.Cycles.{AsksCycle, GivesLegal, IsStoredCycle, IsTextOf, RefusesCycle, cycle_file}
use Rattle.mss_command.specs.Fetched.{Fetched, Missing, TooLong, Bytes, file_limit, within}
use Rattle.mss_command.specs.Outcome.{Outcome}
use Rattle.mss_command.specs.Questions.{wanted}

-- a refusal has the status of a refused cycle
refused : (tables : TableParts) (file : Fetched) (o : Outcome) → RefusesCycle tables file o → o.status ≡ statuses.Cycle
refused tables Missing o known = absurd known
refused tables TooLong o known = ap (λ o. o.status) known
refused tables (Bytes bytes) o (inl r) = ap (λ o. o.status) r.refuses
refused tables (Bytes bytes) o (inr r) = ap (λ o. o.status) r.illegal.refuses

not_cycle : (o : Outcome) → o.status ≡ statuses.Cycle → o.status ≡ statuses.Done → ⊥
not_cycle o refused done = let z : statuses.Cycle ≡ statuses.Done = sym refused ∙ done in cc

module _ (files : Files) (tables : TableParts) (cycle : List ℕ) where
  read_cycle : (bytes : List ℕ) (long : Bool) → get files cycle_file ≡ Some bytes → GivesLegal tables (cond long TooLong (Bytes bytes)) cycle → IsStoredCycle files tables cycle
  read_cycle bytes true e given = absurd given
  read_cycle bytes false e given = record { bytes = bytes; stored = e; means = given }

  -- a legal cycle that cycle.csv gives is stored there
  stored_cycle : (stored : Option (List ℕ)) → get files cycle_file ≡ stored → GivesLegal tables (within file_limit stored) cycle → IsStoredCycle files tables cycle
  stored_cycle None e given = absurd given
  stored_cycle (Some bytes) e given = read_cycle bytes (ltb file_limit (length bytes)) e given

-- what such a question came to at status 0 is its answer to the legal cycle that is stored
pub cycle_answered : (answers : List ℕ → Outcome → Type 0) (files : Files) (tables : TableParts) (o : Outcome) (P : Type 0)
    → AsksCycle answers tables (wanted (Some cycle_file) file_limit files) o → o.status ≡ statuses.Done
    → ((cycle : List ℕ) → IsStoredCycle files tables cycle → answers cycle o → P) → P
cycle_answered answers files tables o P (inl a) done if_answered =
    if_answered a.cycle (stored_cycle files tables a.cycle (get files cycle_file) refl a.given) a.answered
cycle_answered answers files tables o P (inr r) done if_answered = absurd (not_cycle o (refused tables (wanted (Some cycle_file) file_limit files) o r) done)

-- ---- the text of a cycle

-- a reading without a fault gives its meaning
meant : {T F : Type 0} (reading : Result T F) (other meaning : T) → result_err reading ≡ None → result_unwrap_or reading other ≡ meaning → reading ≡ Ok meaning
meant (Ok x) other meaning none same = ap Ok same
meant (Err fault) other meaning none same = absurd (none-some fault (sym none))

-- the text of a cycle is read back as it
pub is_text_of : (tables : TableParts) (cycle bytes : List ℕ) → bytes ≡ cycle_text_of tables cycle → cycle_fault tables bytes ≡ None
    → cycle_in tables bytes ≡ cycle → IsTextOf tables cycle bytes
is_text_of tables cycle bytes text accepted same = record { text = text; back = meant (cycle_at tables bytes) [] cycle accepted same }
