-- A word with its number at the front of some bytes.
use Rattle.std.proofs.Common.{◌≡◌, ◌≢◌, ℕ, ◌<◌, ◌^◌, List, [], ◌∷◌, ◌++◌, refl, sym, ◌∙◌, ap, arith, append_assoc, decimal}
use Rattle.std.proofs.lemmas.List.{append_cancel_left}
use Rattle.mss_lines.specs.Fields.{AreShort, EndsNumber, IsField, IsWithoutField}
use Rattle.mss_weights.specs.Labelled.{labelled, three_labelled, IsLabelled, IsWithoutLabelled}
use Rattle.mss_lines.specs.Lines.{IsOneLine}
use Rattle.mss_lines.specs.DigitsLaws.{same_number}
use Rattle.mss_lines.specs.OneLineLaws.{one_line-append, number-one_line}

space : (bs : List ℕ) → EndsNumber (32 ∷ bs)
space bs d = omega arith

-- what stands after a word
pub field_after : (word bytes rest later : List ℕ) (n : ℕ) → bytes ≡ word ++ rest → IsLabelled word bytes n later → IsField rest n later
field_after word bytes rest later n e found = record {
  short = found.short;
  ended = found.ended;
  parts = append_cancel_left word rest (32 ∷ (decimal n ++ later)) (sym e ∙ found.parts);
}

pub without_word : (word bytes : List ℕ) → ((rest : List ℕ) → bytes ≢ word ++ rest) → IsWithoutLabelled word bytes
without_word word bytes none n later found = none (32 ∷ (decimal n ++ later)) found.parts

pub no_labelled : (word bytes rest : List ℕ) → bytes ≡ word ++ rest → IsWithoutField rest → IsWithoutLabelled word bytes
no_labelled word bytes rest e none n later found = none n later (field_after word bytes rest later n e found)

pub is_labelled : (word bytes rest later : List ℕ) (n : ℕ) → bytes ≡ word ++ rest → IsField rest n later → IsLabelled word bytes n later
is_labelled word bytes rest later n e found = record {
  short = found.short;
  ended = found.ended;
  parts = e ∙ ap (λ xs. word ++ xs) found.parts;
}

-- a word has one number
pub same_labelled : (word bytes x y : List ℕ) (m n : ℕ) → IsLabelled word bytes m x → IsLabelled word bytes n y → (m ≡ n) × (x ≡ y)
same_labelled word bytes x y m n p q =
    let both : 32 ∷ (decimal m ++ x) ≡ 32 ∷ (decimal n ++ y) = append_cancel_left word (32 ∷ (decimal m ++ x)) (32 ∷ (decimal n ++ y)) (sym p.parts ∙ q.parts) in
    let tail : decimal m ++ x ≡ decimal n ++ y = cc in
    same_number m n x y p.short q.short p.ended q.ended tail

-- ---- three words with their numbers

abbrev pub two_labelled : List ℕ → ℕ → List ℕ → ℕ → List ℕ
two_labelled second b third c = labelled second b (32 ∷ labelled third c [])

-- the first of them, and what follows it
pub first_of : (line first second third : List ℕ) (a b c : ℕ) → a < 10 ^ 9 → line ≡ three_labelled first a second b third c
    → IsLabelled first line a (32 ∷ two_labelled second b third c)
first_of line first second third a b c short h = record { short = short; ended = space (two_labelled second b third c); parts = h }

pub second_of : (bytes second third : List ℕ) (b c : ℕ) → b < 10 ^ 9 → bytes ≡ two_labelled second b third c → IsLabelled second bytes b (32 ∷ labelled third c [])
second_of bytes second third b c short h = record { short = short; ended = space (labelled third c []); parts = h }

pub third_of : (bytes third : List ℕ) (c : ℕ) → c < 10 ^ 9 → bytes ≡ labelled third c [] → IsLabelled third bytes c []
third_of bytes third c short h = record { short = short; ended = tt; parts = h }

-- behind a space
pub behind : (bytes rest later : List ℕ) → bytes ≡ 32 ∷ rest → bytes ≡ 32 ∷ later → rest ≡ later
behind bytes rest later e h = let both : 32 ∷ rest ≡ 32 ∷ later = sym e ∙ h in cc

-- the line has one spelling
pub same_three : (first second third : List ℕ) (a b c m n o : ℕ) → AreShort (a ∷ b ∷ c ∷ []) → AreShort (m ∷ n ∷ o ∷ [])
    → three_labelled first a second b third c ≡ three_labelled first m second n third o → (a ≡ m) × (b ≡ n) × (c ≡ o)
same_three first second third a b c m n o p q h =
    let line = three_labelled first a second b third c in
    let one = same_labelled first line (32 ∷ two_labelled second b third c) (32 ∷ two_labelled second n third o) a m
    (first_of line first second third a b c p.0 refl) (first_of line first second third m n o q.0 h) in
    let two_on : two_labelled second b third c ≡ two_labelled second n third o = let e : 32 ∷ two_labelled second b third c ≡ 32 ∷ two_labelled second n third o = one.1 in cc in
    let bytes = two_labelled second b third c in
    let two = same_labelled second bytes (32 ∷ labelled third c []) (32 ∷ labelled third o []) b n
    (second_of bytes second third b c p.1.0 refl) (second_of bytes second third n o q.1.0 two_on) in
    let three_on : labelled third c [] ≡ labelled third o [] = let e : 32 ∷ labelled third c [] ≡ 32 ∷ labelled third o [] = two.1 in cc in
    let three = same_labelled third (labelled third c []) [] [] c o (third_of (labelled third c []) third c p.1.1.0 refl) (third_of (labelled third c []) third o q.1.1.0 three_on) in
    (one.0, two.0, three.0)

-- ---- the line as it is written

labelled-onto : (word : List ℕ) (n : ℕ) (xs ys : List ℕ) → labelled word n xs ++ ys ≡ labelled word n (xs ++ ys)
labelled-onto word n xs ys = append_assoc word (32 ∷ (decimal n ++ xs)) ys ∙ ap (λ zs. word ++ (32 ∷ zs)) (append_assoc (decimal n) xs ys)

pub three-onto : (first second third : List ℕ) (a b c : ℕ) (ys : List ℕ)
    → labelled first a (32 ∷ labelled second b (32 ∷ labelled third c ys)) ≡ three_labelled first a second b third c ++ ys
three-onto first second third a b c ys =
    sym
    (labelled-onto first a (32 ∷ two_labelled second b third c) ys
    ∙ ap (λ zs. labelled first a (32 ∷ zs)) (labelled-onto second b (32 ∷ labelled third c []) ys ∙ ap (λ zs. labelled second b (32 ∷ zs)) (labelled-onto third c [] ys)))

labelled-one_line : (word : List ℕ) (n : ℕ) (rest : List ℕ) → IsOneLine word → n < 10 ^ 9 → IsOneLine rest → IsOneLine (labelled word n rest)
labelled-one_line word n rest p short q =
    one_line-append word (32 ∷ (decimal n ++ rest)) p ((λ e. omega arith), one_line-append (decimal n) rest (number-one_line n short) q)

pub three-one_line : (first second third : List ℕ) (a b c : ℕ) → IsOneLine first → IsOneLine second → IsOneLine third → AreShort (a ∷ b ∷ c ∷ [])
    → IsOneLine (three_labelled first a second b third c)
three-one_line first second third a b c p q r short =
    labelled-one_line first a (32 ∷ two_labelled second b third c) p short.0 (
      (λ e. omega arith),
      labelled-one_line second b (32 ∷ labelled third c []) q short.1.0
          ((λ e. omega arith), labelled-one_line third c [] r short.1.1.0 tt),
    )
