-- What is said of a certificate, by the verdict of the checker.
use Rattle.std.proofs.Common.{◌≡◌, ℕ, List, Option, inl, inr, refl, sym}
use Rattle.mss_model.specs.Legality.{IsLegal}
use Rattle.mss_model.specs.declared.parts.TableParts.{TableParts}
use Rattle.mss_cert.specs.declared.certificate.Certificate.{Certificate}
use Rattle.mss_cert.specs.declared.verdict.Verdict.{Verdict}
use Rattle.mss_cert.specs.declared.verdict.Verdict.TheVariants.{Yes, No}
use Rattle.mss_check.specs.Tree.{end_of, least_number}
use Rattle.mss_check.specs.Validity.{IsValid, Proves, peak_at_level, verdict_of}
use Rattle.mss_report.specs.CertificateTexts.{verdict_text_of}
use Rattle.mss_command.specs.Outcome.{Outcome, saying}
use Rattle.mss_certify.specs.Check.{VerdictDefines, verdict_status}

pub defines : (rule : TableParts → List ℕ → Option ℕ) (tables : TableParts) (c : Certificate) (v : Verdict) (o : Outcome)
    → ((n : Option ℕ) → v ≡ Yes n → IsValid rule tables c × (c.end ≡ end_of n)) → (IsValid rule tables c → v ≡ Yes (least_number c.tree))
    → v ≡ verdict_of rule tables c → Proves (IsLegal tables) (peak_at_level tables) v → o ≡ saying (verdict_status v) (verdict_text_of v)
    → VerdictDefines rule tables c o
defines rule tables c (Yes n) o valid only exact proves is =
    let p = valid n refl in inl (record { valid = p.0; number = n; end = p.1; proves = proves; accepts = is })
defines rule tables c (No line reason) o valid only exact proves is = inr (record {
  invalid = λ v. let yes : No line reason ≡ Yes (least_number c.tree) = only v in cc;
  line = line;
  reason = reason;
  first = sym exact;
  refuses = is;
})
