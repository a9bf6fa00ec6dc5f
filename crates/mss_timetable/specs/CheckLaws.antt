-- What `check` comes to keeps its promise.
use Rattle.std.proofs.Common.{◌≡◌, ℕ, [], Some, inl, inr, refl}
use Rattle.mss_model.specs.declared.parts.TableParts.{TableParts}
use Rattle.mss_desk.specs.Desk.{Files, Content}
use Rattle.mss_pctl.specs.Printed.{named_text}
use Rattle.mss_weights.specs.declared.weights.Weights.{Weights}
use Rattle.mss_command.specs.declared.status.Status.TheVariants as statuses
use Rattle.mss_command.specs.CheckLaws.{not_refused, text_answered}
use Rattle.mss_command.specs.Lower.{EachPeaksAt}
use Rattle.mss_command.specs.Outcome.{Did, Outcome, saying}
use Rattle.mss_command.specs.Promised.{SaysOnly}
use Rattle.mss_command.specs.PromisedLaws.{says_only}
use Rattle.mss_command.specs.Questions.{Asks, wanted}
use Rattle.mss_command.specs.QuestionLaws.{answered}
use Rattle.mss_command.specs.Tables.{StoresTables}
use Rattle.mss_timetable.specs.Check.{CheckDefines, SaysLower, VerdictDefines, weights_format}
use Rattle.mss_timetable.specs.CheckTexts.{accepted_text}
use Rattle.mss_timetable.specs.Lower.{weights_file, weights_limit}

module _ (files : Files) (o : Outcome) where
  Said : Type 0
  Said = SaysLower files o.text × (o.puts ≡ [])

  said : (tables : TableParts) → StoresTables files tables → (number : ℕ) → EachPeaksAt tables number → o ≡ saying statuses.Done (accepted_text number) → Said
  unfolding Said named_text
  said tables stored number lower is = rw is (record { tables = tables; stored = stored; tells = record { number = number; exact = refl; holds = lower } }, refl)

  said_of_verdict : (tables : TableParts) → StoresTables files tables → (weights : Weights) → VerdictDefines tables weights o → o.status ≡ statuses.Done → Said
  said_of_verdict tables stored weights (inl a) done = said tables stored weights.number a.lower a.accepts
  said_of_verdict tables stored weights (inr r) done = absurd (not_refused o _ r.refuses done)

  pub says_lower : Asks CheckDefines (Some weights_file) weights_limit files o → o.status ≡ statuses.Done → SaysLower files o.text × (o.puts ≡ [])
  unfolding Said
  says_lower known done = answered CheckDefines files o Said (Some weights_file) weights_limit known done (λ tables stored answer.
      text_answered weights_format (VerdictDefines tables) (wanted (Some weights_file) weights_limit files) o Said answer done (λ bytes weights read means verdict.
      said_of_verdict tables stored weights verdict done))

pub check_keeps : (o : Outcome) (c d : Content) → Asks CheckDefines (Some weights_file) weights_limit c.files o → Did o c d → SaysOnly SaysLower o.status c d
check_keeps o c d known did = says_only SaysLower o c d did (says_lower c.files o known)
