-- The words at the front of lines.
use Rattle.std.proofs.Common.{◌≡◌, ◌≢◌, ℕ, ◌<◌, ◌^◌, List, [], ◌∷◌, ◌++◌, length, get_or, codes, refl, sym, ◌∙◌, ap, arith, decimal}
use Rattle.std.proofs.lemmas.List.{append_cancel_left}
use Rattle.mss_lines.specs.Fields.{AreShort, fields, IsDigit, IsField}
use Rattle.mss_lines.specs.DigitsLaws.{same_number}
use Rattle.mss_lines.specs.SpacedNumbersLaws.{same_numbers}
use Rattle.mss_cert.specs.declared.certificate.Line.TheVariants.{Branch, Dead, Full, Closed, OpenAt}
use Rattle.mss_cert.specs.declared.certificate.End.TheVariants.{Lower, NoneLegal}
use Rattle.mss_cert.specs.declared.reading.Row.{Row}
use Rattle.mss_cert.specs.declared.reading.Row.TheVariants.{Tree, Last}
use Rattle.mss_cert.specs.CertificateText.{head_text}
use Rattle.mss_cert.specs.CertificateFaults.{IsTreeLine, IsEndLine}
use Rattle.mss_cert.specs.Rows.{IsRow}

-- a line of none of the kinds
pub neither : (bytes : List ℕ) → ((r : Row) → IsRow bytes r → ⊥) → (IsTreeLine bytes → ⊥) × (IsEndLine bytes → ⊥)
neither bytes none = ((λ x. none (Tree x.line) (x.short, x.text)), (λ x. none (Last x.end) (x.short, x.text)))

-- other lines begin with other letters
distinct : (bytes xs ys : List ℕ) → bytes ≡ xs → bytes ≡ ys → get_or xs 0 0 ≢ get_or ys 0 0 → ⊥
distinct bytes xs ys p q h = h (ap (λ zs. get_or zs 0 0) (sym p ∙ q))

abbrev at : List ℕ → ℕ → ℕ
at ns i = get_or ns i 0

-- A line of a kind with so many numbers, which are what follows its word.
pub record IsKind (make : List ℕ → Row) (count : ℕ) (rest : List ℕ) (row : Row) : Type 0 where
  pub numbers : List ℕ
  pub many : length numbers ≡ count
  pub short : AreShort numbers
  pub text : rest ≡ fields numbers
  pub made : row ≡ make numbers

-- where the numbers aren't there, neither is the line
pub no_kind : (make : List ℕ → Row) (count : ℕ) (rest : List ℕ) (row : Row) → ((ns : List ℕ) → length ns ≡ count → AreShort ns → rest ≢ fields ns) → IsKind make count rest row → ⊥
no_kind make count rest row none k = none k.numbers k.many k.short k.text

abbrev branch_row : List ℕ → Row
branch_row ns = Tree (Branch (at ns 0))

of_branch : (bytes rest : List ℕ) → bytes ≡ codes "branch" ++ rest → (row : Row) → IsRow bytes row → IsKind branch_row 1 rest row
of_branch bytes rest e (Tree (Branch turn)) h = record {
  numbers = turn ∷ [];
  many = refl;
  short = h.0;
  text = append_cancel_left (codes "branch") rest (fields (turn ∷ [])) (sym e ∙ h.1);
  made = refl;
}
of_branch bytes rest e (Tree _) h = absurd (distinct bytes (codes "branch" ++ rest) _ e h.1 (λ s. omega arith))
of_branch bytes rest e (Last (Lower number)) h = absurd (distinct bytes (codes "branch" ++ rest) _ e h.1 (λ s. omega arith))
of_branch bytes rest e (Last NoneLegal) h = absurd (distinct bytes (codes "branch" ++ rest) _ e h.1 (λ s. omega arith))

abbrev dead_row : List ℕ → Row
dead_row ns = Tree (Dead (at ns 0))

of_dead : (bytes rest : List ℕ) → bytes ≡ codes "dead" ++ rest → (row : Row) → IsRow bytes row → IsKind dead_row 1 rest row
of_dead bytes rest e (Tree (Dead rule)) h = record {
  numbers = rule ∷ [];
  many = refl;
  short = h.0;
  text = append_cancel_left (codes "dead") rest (fields (rule ∷ [])) (sym e ∙ h.1);
  made = refl;
}
of_dead bytes rest e (Tree _) h = absurd (distinct bytes (codes "dead" ++ rest) _ e h.1 (λ s. omega arith))
of_dead bytes rest e (Last (Lower number)) h = absurd (distinct bytes (codes "dead" ++ rest) _ e h.1 (λ s. omega arith))
of_dead bytes rest e (Last NoneLegal) h = absurd (distinct bytes (codes "dead" ++ rest) _ e h.1 (λ s. omega arith))

abbrev full_row : List ℕ → Row
full_row ns = Tree (Full (at ns 0) (at ns 1) (at ns 2) (at ns 3))

of_full : (bytes rest : List ℕ) → bytes ≡ codes "full" ++ rest → (row : Row) → IsRow bytes row → IsKind full_row 4 rest row
of_full bytes rest e (Tree (Full turn number ward day)) h = record {
  numbers = turn ∷ number ∷ ward ∷ day ∷ [];
  many = refl;
  short = h.0;
  text = append_cancel_left (codes "full") rest (fields (turn ∷ number ∷ ward ∷ day ∷ [])) (sym e ∙ h.1);
  made = refl;
}
of_full bytes rest e (Tree _) h = absurd (distinct bytes (codes "full" ++ rest) _ e h.1 (λ s. omega arith))
of_full bytes rest e (Last (Lower number)) h = absurd (distinct bytes (codes "full" ++ rest) _ e h.1 (λ s. omega arith))
of_full bytes rest e (Last NoneLegal) h = absurd (distinct bytes (codes "full" ++ rest) _ e h.1 (λ s. omega arith))

abbrev closed_row : List ℕ → Row
closed_row ns = Tree (Closed (at ns 0) (at ns 1) (at ns 2) (at ns 3))

of_closed : (bytes rest : List ℕ) → bytes ≡ codes "closed" ++ rest → (row : Row) → IsRow bytes row → IsKind closed_row 4 rest row
of_closed bytes rest e (Tree (Closed turn number ward day)) h = record {
  numbers = turn ∷ number ∷ ward ∷ day ∷ [];
  many = refl;
  short = h.0;
  text = append_cancel_left (codes "closed") rest (fields (turn ∷ number ∷ ward ∷ day ∷ [])) (sym e ∙ h.1);
  made = refl;
}
of_closed bytes rest e (Tree _) h = absurd (distinct bytes (codes "closed" ++ rest) _ e h.1 (λ s. omega arith))
of_closed bytes rest e (Last (Lower number)) h = absurd (distinct bytes (codes "closed" ++ rest) _ e h.1 (λ s. omega arith))
of_closed bytes rest e (Last NoneLegal) h = absurd (distinct bytes (codes "closed" ++ rest) _ e h.1 (λ s. omega arith))

abbrev open_row : List ℕ → Row
open_row ns = Tree (OpenAt (at ns 0) (at ns 1) (at ns 2))

of_open : (bytes rest : List ℕ) → bytes ≡ codes "open" ++ rest → (row : Row) → IsRow bytes row → IsKind open_row 3 rest row
of_open bytes rest e (Tree (OpenAt number ward day)) h = record {
  numbers = number ∷ ward ∷ day ∷ [];
  many = refl;
  short = h.0;
  text = append_cancel_left (codes "open") rest (fields (number ∷ ward ∷ day ∷ [])) (sym e ∙ h.1);
  made = refl;
}
of_open bytes rest e (Tree _) h = absurd (distinct bytes (codes "open" ++ rest) _ e h.1 (λ s. omega arith))
of_open bytes rest e (Last (Lower number)) h = absurd (distinct bytes (codes "open" ++ rest) _ e h.1 (λ s. omega arith))
of_open bytes rest e (Last NoneLegal) h = absurd (distinct bytes (codes "open" ++ rest) _ e h.1 (λ s. omega arith))

abbrev lower_row : List ℕ → Row
lower_row ns = Last (Lower (at ns 0))

of_lower : (bytes rest : List ℕ) → bytes ≡ codes "lower" ++ rest → (row : Row) → IsRow bytes row → IsKind lower_row 1 rest row
of_lower bytes rest e (Last (Lower number)) h = record {
  numbers = number ∷ [];
  many = refl;
  short = h.0;
  text = append_cancel_left (codes "lower") rest (fields (number ∷ [])) (sym e ∙ h.1);
  made = refl;
}
of_lower bytes rest e (Last NoneLegal) h = absurd (distinct bytes (codes "lower" ++ rest) _ e h.1 (λ s. omega arith))
of_lower bytes rest e (Tree (Branch turn)) h = absurd (distinct bytes (codes "lower" ++ rest) _ e h.1 (λ s. omega arith))
of_lower bytes rest e (Tree (Dead rule)) h = absurd (distinct bytes (codes "lower" ++ rest) _ e h.1 (λ s. omega arith))
of_lower bytes rest e (Tree (Full turn number ward day)) h = absurd (distinct bytes (codes "lower" ++ rest) _ e h.1 (λ s. omega arith))
of_lower bytes rest e (Tree (Closed turn number ward day)) h = absurd (distinct bytes (codes "lower" ++ rest) _ e h.1 (λ s. omega arith))
of_lower bytes rest e (Tree (OpenAt number ward day)) h = absurd (distinct bytes (codes "lower" ++ rest) _ e h.1 (λ s. omega arith))

of_none : (bytes : List ℕ) → bytes ≡ codes "none" → (row : Row) → IsRow bytes row → row ≡ Last NoneLegal
of_none bytes e (Last NoneLegal) h = refl
of_none bytes e (Last (Lower number)) h = absurd (distinct bytes (codes "none") _ e h.1 (λ s. omega arith))
of_none bytes e (Tree (Branch turn)) h = absurd (distinct bytes (codes "none") _ e h.1 (λ s. omega arith))
of_none bytes e (Tree (Dead rule)) h = absurd (distinct bytes (codes "none") _ e h.1 (λ s. omega arith))
of_none bytes e (Tree (Full turn number ward day)) h = absurd (distinct bytes (codes "none") _ e h.1 (λ s. omega arith))
of_none bytes e (Tree (Closed turn number ward day)) h = absurd (distinct bytes (codes "none") _ e h.1 (λ s. omega arith))
of_none bytes e (Tree (OpenAt number ward day)) h = absurd (distinct bytes (codes "none") _ e h.1 (λ s. omega arith))

-- a line that begins with a word, and whose numbers aren't those of its kind
pub no_branch : (bytes rest : List ℕ) → bytes ≡ codes "branch" ++ rest → ((ns : List ℕ) → length ns ≡ 1 → AreShort ns → rest ≢ fields ns)
    → (IsTreeLine bytes → ⊥) × (IsEndLine bytes → ⊥)
no_branch bytes rest e none = neither bytes (λ row h. no_kind branch_row 1 rest row none (of_branch bytes rest e row h))

pub no_dead : (bytes rest : List ℕ) → bytes ≡ codes "dead" ++ rest → ((ns : List ℕ) → length ns ≡ 1 → AreShort ns → rest ≢ fields ns)
    → (IsTreeLine bytes → ⊥) × (IsEndLine bytes → ⊥)
no_dead bytes rest e none = neither bytes (λ row h. no_kind dead_row 1 rest row none (of_dead bytes rest e row h))

pub no_full : (bytes rest : List ℕ) → bytes ≡ codes "full" ++ rest → ((ns : List ℕ) → length ns ≡ 4 → AreShort ns → rest ≢ fields ns)
    → (IsTreeLine bytes → ⊥) × (IsEndLine bytes → ⊥)
no_full bytes rest e none = neither bytes (λ row h. no_kind full_row 4 rest row none (of_full bytes rest e row h))

pub no_closed : (bytes rest : List ℕ) → bytes ≡ codes "closed" ++ rest → ((ns : List ℕ) → length ns ≡ 4 → AreShort ns → rest ≢ fields ns)
    → (IsTreeLine bytes → ⊥) × (IsEndLine bytes → ⊥)
no_closed bytes rest e none = neither bytes (λ row h. no_kind closed_row 4 rest row none (of_closed bytes rest e row h))

pub no_open : (bytes rest : List ℕ) → bytes ≡ codes "open" ++ rest → ((ns : List ℕ) → length ns ≡ 3 → AreShort ns → rest ≢ fields ns)
    → (IsTreeLine bytes → ⊥) × (IsEndLine bytes → ⊥)
no_open bytes rest e none = neither bytes (λ row h. no_kind open_row 3 rest row none (of_open bytes rest e row h))

pub no_lower : (bytes rest : List ℕ) → bytes ≡ codes "lower" ++ rest → ((ns : List ℕ) → length ns ≡ 1 → AreShort ns → rest ≢ fields ns)
    → (IsTreeLine bytes → ⊥) × (IsEndLine bytes → ⊥)
no_lower bytes rest e none = neither bytes (λ row h. no_kind lower_row 1 rest row none (of_lower bytes rest e row h))

-- ---- a text is that of one line alone

one : (make : List ℕ → Row) (ms : List ℕ) (row : Row) → AreShort ms → IsKind make (length ms) (fields ms) row → make ms ≡ row
one make ms row short k = ap make (same_numbers ms k.numbers short k.short k.text) ∙ sym k.made

pub same_row : (bytes : List ℕ) (a b : Row) → IsRow bytes a → IsRow bytes b → a ≡ b
same_row bytes (Tree (Branch turn)) b p q = one branch_row (turn ∷ []) b p.0 (of_branch bytes (fields (turn ∷ [])) p.1 b q)
same_row bytes (Tree (Dead rule)) b p q = one dead_row (rule ∷ []) b p.0 (of_dead bytes (fields (rule ∷ [])) p.1 b q)
same_row bytes (Tree (Full turn number ward day)) b p q = one full_row (turn ∷ number ∷ ward ∷ day ∷ []) b p.0 (of_full bytes (fields (turn ∷ number ∷ ward ∷ day ∷ [])) p.1 b q)
same_row bytes (Tree (Closed turn number ward day)) b p q = one closed_row (turn ∷ number ∷ ward ∷ day ∷ []) b p.0 (of_closed bytes (fields (turn ∷ number ∷ ward ∷ day ∷ [])) p.1 b q)
same_row bytes (Tree (OpenAt number ward day)) b p q = one open_row (number ∷ ward ∷ day ∷ []) b p.0 (of_open bytes (fields (number ∷ ward ∷ day ∷ [])) p.1 b q)
same_row bytes (Last (Lower number)) b p q = one lower_row (number ∷ []) b p.0 (of_lower bytes (fields (number ∷ [])) p.1 b q)
same_row bytes (Last NoneLegal) b p q = sym (of_none bytes p.1 b q)

-- ---- the second line

abbrev pub options_on : ℕ → ℕ → List ℕ
options_on options level = codes " options" ++ (32 ∷ (decimal options ++ (codes " level" ++ fields (level ∷ []))))

not_digit : IsDigit 32 → ⊥
not_digit d = omega arith

-- what follows a number at the front
same_field : (bytes : List ℕ) (m n : ℕ) (x y : List ℕ) → IsField bytes m x → IsField bytes n y → x ≡ y
same_field bytes m n x y p q =
    let both : decimal m ++ x ≡ decimal n ++ y = let whole : 32 ∷ (decimal m ++ x) ≡ 32 ∷ (decimal n ++ y) = sym p.parts ∙ q.parts in cc in
    (same_number m n x y p.short q.short p.ended q.ended both).1

pub slots_field : (line rest : List ℕ) (slots options level : ℕ) → line ≡ codes "slots" ++ rest → slots < 10 ^ 9 → line ≡ head_text slots options level
    → IsField rest slots (options_on options level)
slots_field line rest slots options level e short h = record {
  short = short;
  ended = not_digit;
  parts = append_cancel_left (codes "slots") rest (32 ∷ (decimal slots ++ options_on options level)) (sym e ∙ h);
}

pub after_slots : (line rest later : List ℕ) (n slots options level : ℕ) → line ≡ codes "slots" ++ rest → IsField rest n later → slots < 10 ^ 9
    → line ≡ head_text slots options level → later ≡ options_on options level
after_slots line rest later n slots options level e found short h =
    same_field rest n slots later (options_on options level) found (slots_field line rest slots options level e short h)

pub options_field : (bytes rest : List ℕ) (options level : ℕ) → bytes ≡ codes " options" ++ rest → options < 10 ^ 9 → bytes ≡ options_on options level
    → IsField rest options (codes " level" ++ fields (level ∷ []))
options_field bytes rest options level e short h = record {
  short = short;
  ended = not_digit;
  parts = append_cancel_left (codes " options") rest (32 ∷ (decimal options ++ (codes " level" ++ fields (level ∷ [])))) (sym e ∙ h);
}

pub after_options : (bytes rest later : List ℕ) (n options level : ℕ) → bytes ≡ codes " options" ++ rest → IsField rest n later → options < 10 ^ 9
    → bytes ≡ options_on options level → later ≡ codes " level" ++ fields (level ∷ [])
after_options bytes rest later n options level e found short h =
    same_field rest n options later (codes " level" ++ fields (level ∷ [])) found (options_field bytes rest options level e short h)

pub level_field : (bytes rest : List ℕ) (level : ℕ) → bytes ≡ codes " level" ++ rest → bytes ≡ codes " level" ++ fields (level ∷ []) → rest ≡ fields (level ∷ [])
level_field bytes rest level e h = append_cancel_left (codes " level") rest (fields (level ∷ [])) (sym e ∙ h)

-- the second line has one spelling
pub same_head : (s o v t p w : ℕ) → AreShort (s ∷ o ∷ v ∷ []) → AreShort (t ∷ p ∷ w ∷ []) → head_text s o v ≡ head_text t p w → (s ≡ t) × (o ≡ p) × (v ≡ w)
same_head s o v t p w short short' h =
    let slots = same_number s t (options_on o v) (options_on p w) short.0 short'.0 not_digit not_digit
    (append_cancel_left (codes "slots ") (decimal s ++ options_on o v) (decimal t ++ options_on p w) h) in
    let options = same_number o p (codes " level" ++ fields (v ∷ [])) (codes " level" ++ fields (w ∷ [])) short.1.0 short'.1.0 not_digit not_digit
    (append_cancel_left (codes " options ") (decimal o ++ (codes " level" ++ fields (v ∷ []))) (decimal p ++ (codes " level" ++ fields (w ∷ []))) slots.1) in
    let level = same_numbers (v ∷ []) (w ∷ []) short.1.1 short'.1.1 (append_cancel_left (codes " level") (fields (v ∷ [])) (fields (w ∷ [])) options.1) in
    (slots.0, options.0, ap (λ ns. at ns 0) level)
