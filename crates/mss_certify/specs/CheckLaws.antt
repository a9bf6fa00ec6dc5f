-- What `check` and `check alike` come to keeps their promise.
use Rattle.std.proofs.Common.{◌≡◌, ℕ, List, [], Option, Some, None, inl, inr, refl}
use Rattle.std.specs.Prelude.{◌⊎◌, codes}
use Rattle.mss_model.specs.Legality.{IsLegal}
use Rattle.mss_model.specs.declared.parts.TableParts.{TableParts}
use Rattle.mss_desk.specs.Desk.{Files, Content}
use Rattle.mss_pctl.specs.Printed.{named_text}
use Rattle.mss_cert.specs.declared.certificate.Certificate.{Certificate}
use Rattle.mss_cert.specs.declared.verdict.Verdict.TheVariants.{Yes}
use Rattle.mss_check.specs.Validity.{Proves, peak_at_level}
use Rattle.mss_report.specs.CertificateTexts.{verdict_text_of}
use Rattle.mss_command.specs.declared.status.Status.TheVariants as statuses
use Rattle.mss_command.specs.CheckLaws.{not_refused, text_answered}
use Rattle.mss_command.specs.Lower.{TellsLower}
use Rattle.mss_command.specs.Outcome.{Did, Outcome, saying}
use Rattle.mss_command.specs.Promised.{SaysOnly}
use Rattle.mss_command.specs.PromisedLaws.{says_only}
use Rattle.mss_command.specs.Questions.{Asks, wanted}
use Rattle.mss_command.specs.QuestionLaws.{answered}
use Rattle.mss_command.specs.Tables.{StoresTables}
use Rattle.mss_certify.specs.Check.{CheckDefines, NoneIsLegal, SaysTrue, VerdictDefines, certificate_file, certificate_format, certificate_limit}

-- the text of a yes says what the yes proves
proved : (tables : TableParts) (number : Option ℕ) → Proves (IsLegal tables) (peak_at_level tables) (Yes number)
    → TellsLower (codes "certificate accepted: every legal cycle peaks at least at ") tables (verdict_text_of (Yes number)) ⊎ NoneIsLegal tables (verdict_text_of (Yes number))
unfolding named_text
proved tables (Some number) proves = inl (record { number = number; exact = refl; holds = proves })
proved tables None proves = inr (record { exact = refl; holds = proves })

module _ (rule : TableParts → List ℕ → Option ℕ) (files : Files) (o : Outcome) where
  Said : Type 0
  Said = SaysTrue files o.text × (o.puts ≡ [])

  said : (tables : TableParts) → StoresTables files tables → (number : Option ℕ) → Proves (IsLegal tables) (peak_at_level tables) (Yes number)
      → o ≡ saying statuses.Done (verdict_text_of (Yes number)) → Said
  unfolding Said
  said tables stored number proves is = rw is (record { tables = tables; stored = stored; holds = proved tables number proves }, refl)

  said_of_verdict : (tables : TableParts) → StoresTables files tables → (certificate : Certificate) → VerdictDefines rule tables certificate o → o.status ≡ statuses.Done → Said
  said_of_verdict tables stored certificate (inl a) done = said tables stored a.number a.proves a.accepts
  said_of_verdict tables stored certificate (inr r) done = absurd (not_refused o _ r.refuses done)

  pub says_true : Asks (CheckDefines rule) (Some certificate_file) certificate_limit files o → o.status ≡ statuses.Done → SaysTrue files o.text × (o.puts ≡ [])
  unfolding Said
  says_true known done = answered (CheckDefines rule) files o Said (Some certificate_file) certificate_limit known done (λ tables stored answer.
      text_answered certificate_format (VerdictDefines rule tables) (wanted (Some certificate_file) certificate_limit files) o Said answer done (λ bytes certificate read means verdict.
      said_of_verdict tables stored certificate verdict done))

pub check_keeps : (rule : TableParts → List ℕ → Option ℕ) (o : Outcome) (c d : Content)
    → Asks (CheckDefines rule) (Some certificate_file) certificate_limit c.files o → Did o c d → SaysOnly SaysTrue o.status c d
check_keeps rule o c d known did = says_only SaysTrue o c d did (says_true rule c.files o known)
