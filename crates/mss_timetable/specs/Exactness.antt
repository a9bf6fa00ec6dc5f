-- `check` ends at status 0 exactly where the files hold weights that show a number, and then with that number.
use Rattle.std.proofs.Common.{◌≡◌, ℕ, List, Some, inl, inr, refl, ap, ◌∙◌}
use Rattle.std.specs.Prelude.{IsTrue}
use Rattle.mss_model.specs.declared.parts.TableParts.{TableParts}
use Rattle.mss_desk.specs.Desk.{Files, Content}
use Rattle.mss_weights.specs.declared.weights.Weights.{Weights}
use Rattle.mss_weights.specs.Shown.{is_shown}
use Rattle.mss_command.specs.declared.status.Status.{Status}
use Rattle.mss_command.specs.declared.status.Status.TheVariants as statuses
use Rattle.mss_command.specs.Answers.{Comes}
use Rattle.mss_command.specs.CheckLaws.{good_answered, good_comes, not_refused, only_good, said_of, text_answered}
use Rattle.mss_command.specs.Fetched.{Fetched, Bytes}
use Rattle.mss_command.specs.Outcome.{Outcome, saying}
use Rattle.mss_command.specs.Questions.{AskLacks, Asks}
use Rattle.mss_timetable.specs.Check.{CheckDefines, StoresShown, VerdictDefines, weights_format}
use Rattle.mss_timetable.specs.CheckTexts.{accepted_text}
use Rattle.mss_timetable.specs.Lower.{ShowsNumber, weights_file, weights_limit}
use Rattle.mss_timetable.specs.OneVerdict.{weights_are_one}

-- ---- under given tables

-- the bytes are the text of weights that show some number
abbrev ShowsSome : TableParts → List ℕ → Type 0
ShowsSome tables bytes = (number : ℕ) × ShowsNumber tables number bytes

done_is_shown : (tables : TableParts) (w : Weights) (o : Outcome) → VerdictDefines tables w o → o.status ≡ statuses.Done → IsTrue (is_shown tables w)
done_is_shown tables w o (inl a) done = a.shown
done_is_shown tables w o (inr r) done = absurd (not_refused o _ r.refuses done)

-- what is accepted is the text of weights that show a number
accepted_is_shown : (tables : TableParts) (file : Fetched) (o : Outcome) → CheckDefines tables file o → o.status ≡ statuses.Done
    → (bytes : List ℕ) × (file ≡ Bytes bytes) × ShowsSome tables bytes
accepted_is_shown tables file o known done =
    text_answered weights_format (VerdictDefines tables) file o ((bytes : List ℕ) × (file ≡ Bytes bytes) × ShowsSome tables bytes) known done
    (λ bytes w read means verdict.
    (bytes, read, (w.number, record { weights = w; short = means.0; text = means.1; shown = done_is_shown tables w o verdict done; told = refl })))

shown_is_said : (tables : TableParts) (w : Weights) (o : Outcome) → IsTrue (is_shown tables w) → VerdictDefines tables w o
    → o ≡ saying statuses.Done (accepted_text w.number)
shown_is_said tables w o shown (inl a) = a.accepts
shown_is_said tables w o shown (inr r) = absurd (r.not_shown shown)

-- and each such text is accepted with its number: it has no fault, and is of these weights alone
pub shown_is_accepted : (tables : TableParts) (number : ℕ) (bytes : List ℕ) (o : Outcome) → ShowsNumber tables number bytes
    → CheckDefines tables (Bytes bytes) o → o ≡ saying statuses.Done (accepted_text number)
shown_is_accepted tables number bytes o s known =
    shown_is_said tables s.weights o s.shown (said_of weights_format (VerdictDefines tables) weights_are_one bytes s.weights o (s.short, s.text) known)
    ∙ ap (λ n. saying statuses.Done (accepted_text n)) s.told

-- ---- over files

-- the command ends at status 0 only where the files hold weights that show a number
pub only_shown : (files : Files) (o : Outcome) → Asks CheckDefines (Some weights_file) weights_limit files o → o.status ≡ statuses.Done
    → (number : ℕ) × StoresShown files number
only_shown files o known done =
    let s = only_good weights_file weights_limit ShowsSome CheckDefines accepted_is_shown files o known done in
    (s.good.0, record { tables = s.tables; stored = s.stored; bytes = s.bytes; read = s.read; good = s.good.1 })

-- and wherever they do, saying that number
pub each_shown : (files : Files) (number : ℕ) (o : Outcome) → StoresShown files number → Asks CheckDefines (Some weights_file) weights_limit files o
    → o ≡ saying statuses.Done (accepted_text number)
each_shown files number o s known =
    shown_is_accepted s.tables number s.bytes o s.good (good_answered weights_file weights_limit (λ tables bytes. ShowsNumber tables number bytes) CheckDefines files s o known)

-- what comes where nothing failed and memory was found is status 0 then
pub comes_to_done : (c : Content) (number : ℕ) (status : Status) → StoresShown c.files number
    → Comes (Asks CheckDefines (Some weights_file) weights_limit) (AskLacks (Some weights_file) weights_limit) status c → status ≡ statuses.Done
comes_to_done c number status s comes =
    let p = good_comes weights_file weights_limit (λ tables bytes. ShowsNumber tables number bytes) CheckDefines c s status comes in
    p.2 ∙ ap (λ o. o.status) (shown_is_accepted s.tables number s.bytes p.0 s.good p.1)
