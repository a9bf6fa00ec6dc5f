-- What the commands `check` and `check alike` come to, and what they promise. A rule that makes a prefix dead tells them
-- apart.
use Rattle.std.specs.Prelude.{◌≡◌, ◌⊎◌, ℕ, List, Option, codes}
use Rattle.mss_model.specs.Legality.{IsLegal}
use Rattle.mss_model.specs.declared.parts.TableParts.{TableParts}
use Rattle.mss_desk.specs.Desk.{Files}
use Rattle.mss_cert.specs.declared.certificate.Certificate.{Certificate}
use Rattle.mss_cert.specs.declared.faults.CertFault.{CertFault}
use Rattle.mss_cert.specs.declared.faults.CertKind.TheVariants as kinds
use Rattle.mss_cert.specs.declared.verdict.Reason.{Reason}
use Rattle.mss_cert.specs.declared.verdict.Verdict.{Verdict}
use Rattle.mss_cert.specs.declared.verdict.Verdict.TheVariants.{Yes, No}
use Rattle.mss_cert.specs.CertificateFaults.{IsFaultAt}
use Rattle.mss_cert.specs.CertificateText.{IsShort, certificate_text}
use Rattle.mss_cert.specs.declared.certificate.TheConstants.{MOST_CERTIFICATE_BYTES}
use Rattle.mss_check.specs.Tree.{end_of}
use Rattle.mss_check.specs.Validity.{IsValid, Proves, peak_at_level, verdict_of}
use Rattle.mss_report.specs.CertificateTexts.{cert_fault_text_of, verdict_text_of}
use Rattle.mss_command.specs.declared.status.Status.{Status}
use Rattle.mss_command.specs.declared.status.Status.TheVariants as statuses
use Rattle.mss_command.specs.Checks.{ChecksText, Format, StoresGood}
use Rattle.mss_command.specs.Fetched.{Fetched}
use Rattle.mss_command.specs.Lower.{TellsLower}
use Rattle.mss_command.specs.Outcome.{Outcome, saying}
use Rattle.mss_command.specs.Tables.{StoresTables}

abbrev pub certificate_file : List ℕ
certificate_file = codes "certificate.txt"

-- the most bytes of certificate.txt
abbrev pub certificate_limit : ℕ
certificate_limit = MOST_CERTIFICATE_BYTES

-- ---- what is said

-- the certificate is valid under these tables, and what its end proves of their legal cycles is said
pub record AcceptsCertificate (rule : TableParts → List ℕ → Option ℕ) (tables : TableParts) (certificate : Certificate) (o : Outcome) : Type 0 where
  pub valid : IsValid rule tables certificate
  pub number : Option ℕ
  pub end : certificate.end ≡ end_of number
  pub proves : Proves (IsLegal tables) (peak_at_level tables) (Yes number)
  pub accepts : o ≡ saying statuses.Done (verdict_text_of (Yes number))

-- the certificate isn't valid under these tables, and its first line that fails is said, with the reason
pub record RefusesCertificate (rule : TableParts → List ℕ → Option ℕ) (tables : TableParts) (certificate : Certificate) (o : Outcome) : Type 0 where
  pub invalid : ¬ IsValid rule tables certificate
  pub line : ℕ
  pub reason : Reason
  pub first : verdict_of rule tables certificate ≡ No line reason
  pub refuses : o ≡ saying statuses.Certificate (verdict_text_of (No line reason))

-- what is said of a certificate under these tables
abbrev pub VerdictDefines : (TableParts → List ℕ → Option ℕ) → TableParts → Certificate → Outcome → Type 0
VerdictDefines rule tables certificate o = AcceptsCertificate rule tables certificate o ⊎ RefusesCertificate rule tables certificate o

-- certificate.txt means the certificate of which it is the text, or has a first fault
abbrev pub certificate_format : Format Certificate CertFault
certificate_format = record {
  Means = λ bytes certificate. IsShort certificate × (bytes ≡ certificate_text certificate);
  IsFirst = λ bytes fault. IsFaultAt bytes fault.kind fault.line;
  fault_text = cert_fault_text_of;
  too_long = record { line = 0; kind = kinds.TooLong };
}

-- what is said under these tables where certificate.txt was read like this
abbrev pub CheckDefines : (TableParts → List ℕ → Option ℕ) → TableParts → Fetched → Outcome → Type 0
CheckDefines rule tables file o = ChecksText certificate_format (VerdictDefines rule tables) file o

abbrev pub verdict_status : Verdict → Status
verdict_status (Yes number) = statuses.Done
verdict_status (No line reason) = statuses.Certificate

-- ---- what is promised

-- the text says that there is no legal cycle, and there is none
pub record NoneIsLegal (tables : TableParts) (text : List ℕ) : Type 0 where
  pub exact : text ≡ codes "certificate accepted: no legal cycle\n"
  pub holds : (cycle : List ℕ) → ¬ IsLegal tables cycle

-- What the text says of the legal cycles under the tables that the ten files mean is so, whoever made the certificate:
-- each peaks at least at a number, or there is none.
pub record SaysTrue (files : Files) (text : List ℕ) : Type 0 where
  pub tables : TableParts
  pub stored : StoresTables files tables
  pub holds : TellsLower (codes "certificate accepted: every legal cycle peaks at least at ") tables text ⊎ NoneIsLegal tables text

-- ---- what is accepted

-- the bytes are the text of a certificate that is valid under these tables
pub record IsValidText (rule : TableParts → List ℕ → Option ℕ) (tables : TableParts) (bytes : List ℕ) : Type 0 where
  pub certificate : Certificate
  pub short : IsShort certificate
  pub text : bytes ≡ certificate_text certificate
  pub valid : IsValid rule tables certificate

-- The ten files are stored, each within its limit, and mean tables; certificate.txt is stored within its own, and is the
-- text of a certificate that is valid under them.
abbrev pub StoresValid : (TableParts → List ℕ → Option ℕ) → Files → Type 0
StoresValid rule files = StoresGood certificate_file certificate_limit (IsValidText rule) files
