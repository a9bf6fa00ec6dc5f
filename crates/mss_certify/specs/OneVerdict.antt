-- `check` and `check alike` come to one outcome over the same files.
use Rattle.std.proofs.Common.{◌≡◌, ℕ, List, Option, Some, None, inl, inr, sym, ap, subst, ◌∙◌}
use Rattle.mss_model.specs.declared.parts.TableParts.{TableParts}
use Rattle.mss_cert.specs.declared.certificate.Certificate.{Certificate}
use Rattle.mss_cert.specs.declared.faults.CertFault.{CertFault}
use Rattle.mss_cert.specs.declared.faults.CertKind.{CertKind}
use Rattle.mss_cert.specs.declared.verdict.Verdict.TheVariants.{Yes}
use Rattle.mss_cert.specs.CertificateFaults.{IsFaultAt}
use Rattle.mss_cert.specs.OneFaultLaws.{one_fault}
use Rattle.mss_cert.specs.OneTextLaws.{same_certificate, text_is_good}
use Rattle.mss_check.specs.Tree.{end_of}
use Rattle.mss_report.specs.CertificateTexts.{verdict_text_of}
use Rattle.mss_command.specs.declared.status.Status.TheVariants as statuses
use Rattle.mss_command.specs.CheckLaws.{IsOneToOne, text_is_one}
use Rattle.mss_command.specs.OneOutcome.{IsOneAnswer}
use Rattle.mss_command.specs.Outcome.{Outcome, saying}
use Rattle.mss_certify.specs.Check.{CheckDefines, VerdictDefines, certificate_format}

same_number : (m n : Option ℕ) → end_of m ≡ end_of n → m ≡ n
same_number None None e = cc
same_number None (Some n) e = absurd (cc e)
same_number (Some m) None e = absurd (cc e)
same_number (Some m) (Some n) e = let same : m ≡ n = cc in ap Some same

one_verdict : (rule : TableParts → List ℕ → Option ℕ) (tables : TableParts) (c : Certificate) (o p : Outcome) → VerdictDefines rule tables c o → VerdictDefines rule tables c p → o ≡ p
one_verdict rule tables c o p (inl a) (inl b) =
    a.accepts ∙ ap (λ n. saying statuses.Done (verdict_text_of (Yes n))) (same_number a.number b.number (sym a.end ∙ b.end)) ∙ sym b.accepts
one_verdict rule tables c o p (inl a) (inr r) = absurd (r.invalid a.valid)
one_verdict rule tables c o p (inr r) (inl b) = absurd (r.invalid b.valid)
one_verdict rule tables c o p (inr r) (inr s) =
    r.refuses ∙ ap (λ v. saying statuses.Certificate (verdict_text_of v)) (sym r.first ∙ s.first) ∙ sym s.refuses

abbrev fault_with : ℕ → CertKind → CertFault
fault_with line kind = record { line = line; kind = kind }

same_fault : (f g : CertFault) → (f.kind ≡ g.kind) × (f.line ≡ g.line) → f ≡ g
same_fault f g same = ap (λ k. fault_with f.line k) same.0 ∙ ap (λ n. fault_with n g.kind) same.1

-- a text is of one certificate, or has one first fault
pub certificates_are_one : IsOneToOne certificate_format
certificates_are_one = record {
  one_value = λ bytes c d one other. same_certificate c d one.0 other.0 (sym one.1 ∙ other.1);
  one_fault = λ bytes f g one other. same_fault f g (one_fault bytes f.kind g.kind f.line g.line one other);
  not_both = λ bytes c f means first. text_is_good c f.kind f.line means.0 (subst (λ b. IsFaultAt b f.kind f.line) means.1 first);
}

pub check_is_one : (rule : TableParts → List ℕ → Option ℕ) → IsOneAnswer (CheckDefines rule)
check_is_one rule tables file o p a b = text_is_one certificate_format (VerdictDefines rule tables) certificates_are_one (one_verdict rule tables) file o p a b
