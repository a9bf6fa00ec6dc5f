-- The first line of a text names one version.
use Rattle.std.proofs.Common.{◌≡◌, ◌≢◌, ℕ, ◌+◌, ◌<◌, List, [], ◌∷◌, ◌++◌, codes, sym, ◌∙◌, ap, subst, arith, append_assoc, decimal, inl, inr}
use Rattle.std.proofs.lemmas.List.{append_cancel_left}
use Rattle.std.proofs.lemmas.Fmt.{decimal_digit}
use Rattle.std.proofs.lemmas.Bool.Decides.{eqb_tells}
use Rattle.mss_model.specs.Limits.{Between}
use Rattle.mss_lines.specs.Fields.{IsDigit}
use Rattle.mss_lines.specs.DigitsLaws.{same_number}
use Rattle.mss_cert.specs.CertificateText.{version_text}
use Rattle.mss_cert.specs.CertificateFaults.{HasVersion}

no_digit : IsDigit 10 → ⊥
no_digit d = omega arith

pub version-ended : (v : ℕ) (x : List ℕ) → version_text v ++ x ≡ codes "mss certificate " ++ (decimal v ++ (10 ∷ x))
version-ended v x = ap (λ xs. codes "mss certificate " ++ xs) (append_assoc (decimal v) (10 ∷ []) x)

pub same_version : (v w : ℕ) (x y : List ℕ) → Between 1 2 v → Between 1 2 w → version_text v ++ x ≡ version_text w ++ y → (v ≡ w) × (x ≡ y)
same_version v w x y p q h =
    let both = same_number v w (10 ∷ x) (10 ∷ y) (omega (arith, p.1)) (omega (arith, q.1)) no_digit no_digit
    (append_cancel_left (codes "mss certificate ") (decimal v ++ (10 ∷ x)) (decimal w ++ (10 ∷ y)) (sym (version-ended v x) ∙ h ∙ version-ended w y)) in
    let rest : 10 ∷ x ≡ 10 ∷ y = both.1 in (both.0, cc)

pub first_line : (bytes later : List ℕ) (version : ℕ) → Between 1 2 version × (bytes ≡ version_text version ++ later) → HasVersion bytes later
first_line bytes later version h = record { version = version; known = h.0; parts = h.1 }

-- what follows the first line
pub one_version : (bytes x y : List ℕ) → HasVersion bytes x → HasVersion bytes y → x ≡ y
one_version bytes x y p q = (same_version p.version q.version x y p.known q.known (sym p.parts ∙ q.parts)).1

-- a first line as it is spelled
pub version-spelled : (v : ℕ) (x : List ℕ) → v < 10 → version_text v ++ x ≡ codes "mss certificate " ++ ((48 + v) ∷ (10 ∷ x))
version-spelled v x small = version-ended v x ∙ ap (λ ds. codes "mss certificate " ++ (ds ++ (10 ∷ x))) (decimal_digit v small)

-- a text that begins with neither first line
pub no_version : (bytes : List ℕ) → ((rest : List ℕ) → bytes ≢ codes "mss certificate 1\n" ++ rest) → ((rest : List ℕ) → bytes ≢ codes "mss certificate 2\n" ++ rest)
    → (later : List ℕ) → HasVersion bytes later → ⊥
no_version bytes one two later h = elim (eqb_tells h.version 1) [
  | inl is ↦ one later (subst (λ v. bytes ≡ version_text v ++ later) is.1 h.parts ∙ version-spelled 1 later (omega arith))
  | inr other ↦ let e : h.version ≡ 2 = grind (arith, other.1, h.known.0, h.known.1) in two later (subst (λ v. bytes ≡ version_text v ++ later) e h.parts ∙ version-spelled 2 later (omega arith))
]
