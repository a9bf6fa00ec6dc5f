-- `check` and `check alike` end at status 0 exactly where the files hold a certificate that is valid over their rules.
use Rattle.std.proofs.Common.{◌≡◌, ℕ, List, Option, Some, inl, inr, ap, ◌∙◌}
use Rattle.mss_model.specs.declared.parts.TableParts.{TableParts}
use Rattle.mss_desk.specs.Desk.{Files, Content}
use Rattle.mss_cert.specs.declared.certificate.Certificate.{Certificate}
use Rattle.mss_check.specs.Validity.{IsValid}
use Rattle.mss_command.specs.declared.status.Status.{Status}
use Rattle.mss_command.specs.declared.status.Status.TheVariants as statuses
use Rattle.mss_command.specs.Answers.{Comes}
use Rattle.mss_command.specs.CheckLaws.{good_answered, good_comes, not_refused, only_good, said_of, text_answered}
use Rattle.mss_command.specs.Fetched.{Fetched, Bytes}
use Rattle.mss_command.specs.Outcome.{Outcome}
use Rattle.mss_command.specs.Questions.{AskLacks, Asks}
use Rattle.mss_certify.specs.Check.{CheckDefines, IsValidText, StoresValid, VerdictDefines, certificate_file, certificate_format, certificate_limit}
use Rattle.mss_certify.specs.OneVerdict.{certificates_are_one}

module _ (rule : TableParts → List ℕ → Option ℕ) where
  -- ---- under given tables

  done_is_valid : (tables : TableParts) (c : Certificate) (o : Outcome) → VerdictDefines rule tables c o → o.status ≡ statuses.Done → IsValid rule tables c
  done_is_valid tables c o (inl a) done = a.valid
  done_is_valid tables c o (inr r) done = absurd (not_refused o _ r.refuses done)

  -- what is accepted is the text of a valid certificate
  pub accepted_is_valid : (tables : TableParts) (file : Fetched) (o : Outcome) → CheckDefines rule tables file o → o.status ≡ statuses.Done
      → (bytes : List ℕ) × (file ≡ Bytes bytes) × IsValidText rule tables bytes
  accepted_is_valid tables file o known done =
      text_answered certificate_format (VerdictDefines rule tables) file o ((bytes : List ℕ) × (file ≡ Bytes bytes) × IsValidText rule tables bytes) known done
      (λ bytes c read means verdict. (bytes, read, record { certificate = c; short = means.0; text = means.1; valid = done_is_valid tables c o verdict done }))

  valid_is_done : (tables : TableParts) (c : Certificate) (o : Outcome) → IsValid rule tables c → VerdictDefines rule tables c o → o.status ≡ statuses.Done
  valid_is_done tables c o valid (inl a) = ap (λ o. o.status) a.accepts
  valid_is_done tables c o valid (inr r) = absurd (r.invalid valid)

  -- and each such text is accepted: it has no fault, and is of one certificate alone
  pub valid_is_accepted : (tables : TableParts) (bytes : List ℕ) (o : Outcome) → IsValidText rule tables bytes → CheckDefines rule tables (Bytes bytes) o → o.status ≡ statuses.Done
  valid_is_accepted tables bytes o v known =
      valid_is_done tables v.certificate o v.valid (said_of certificate_format (VerdictDefines rule tables) certificates_are_one bytes v.certificate o (v.short, v.text) known)

  -- ---- over files

  -- the command ends at status 0 only where the files hold a valid certificate
  pub only_valid : (files : Files) (o : Outcome) → Asks (CheckDefines rule) (Some certificate_file) certificate_limit files o → o.status ≡ statuses.Done → StoresValid rule files
  only_valid = only_good certificate_file certificate_limit (IsValidText rule) (CheckDefines rule) accepted_is_valid

  -- and wherever they do
  pub each_valid : (files : Files) (o : Outcome) → StoresValid rule files → Asks (CheckDefines rule) (Some certificate_file) certificate_limit files o → o.status ≡ statuses.Done
  each_valid files o s known =
      valid_is_accepted s.tables s.bytes o s.good (good_answered certificate_file certificate_limit (IsValidText rule) (CheckDefines rule) files s o known)

  -- what comes where nothing failed and memory was found is status 0 then
  pub comes_to_done : (c : Content) (status : Status) → StoresValid rule c.files
      → Comes (Asks (CheckDefines rule) (Some certificate_file) certificate_limit) (AskLacks (Some certificate_file) certificate_limit) status c → status ≡ statuses.Done
  comes_to_done c status s comes =
      let p = good_comes certificate_file certificate_limit (IsValidText rule) (CheckDefines rule) c s status comes in p.2 ∙ valid_is_accepted s.tables s.bytes p.0 s.good p.1
