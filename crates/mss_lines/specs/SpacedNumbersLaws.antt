-- Numbers, each after a space.
use Rattle.std.proofs.Common.{◌≡◌, ◌≢◌, ℕ, zero, suc, ◌<◌, ◌≤◌, ◌^◌, List, [], ◌∷◌, ◌++◌, length, take, drop, refl, sym, ◌∙◌, ap, arith, append_assoc, decimal, length-drop}
use Rattle.std.proofs.lemmas.Fmt.{digits_decimal}
use Rattle.std.proofs.lemmas.List.{append-nil, drop_all, take-append-drop}
use Rattle.mss_lines.specs.Fields.{fields, AreShort, AreDigits, EndsNumber, IsWithoutField}
use Rattle.mss_lines.specs.DigitsLaws.{own, same_digits, same_number}

-- one number more
pub fields-more : (ns : List ℕ) (n : ℕ) (rest : List ℕ) → fields (ns ++ n ∷ []) ++ rest ≡ fields ns ++ (32 ∷ (decimal n ++ rest))
fields-more [] n rest = ap (λ xs. 32 ∷ xs) (append_assoc (decimal n) [] rest)
fields-more (m ∷ ns) n rest =
    ap (λ xs. 32 ∷ xs) (append_assoc (decimal m) (fields (ns ++ n ∷ [])) rest ∙ ap (λ xs. decimal m ++ xs) (fields-more ns n rest)
    ∙ sym (append_assoc (decimal m) (fields ns) (32 ∷ (decimal n ++ rest))))

pub short-more : (ns : List ℕ) (n : ℕ) → AreShort ns → n < 10 ^ 9 → AreShort (ns ++ n ∷ [])
short-more [] n h k = (k, tt)
short-more (m ∷ ns) n h k = (h.0, short-more ns n h.1 k)

space : (bs : List ℕ) → EndsNumber (32 ∷ bs)
space bs d = omega arith

pub fields-ended : (ns : List ℕ) → EndsNumber (fields ns)
fields-ended [] = tt
fields-ended (n ∷ ns) = space (decimal n ++ fields ns)

-- the numbers at the front are those of any list that spells the whole
pub same_fields : (ms ns rest : List ℕ) → AreShort ms → AreShort ns → (0 < length ms → EndsNumber rest) → fields ms ++ rest ≡ fields ns
    → (length ms ≤ length ns) × (rest ≡ fields (drop (length ms) ns))
same_fields [] ns rest p q u h = (omega arith, h)
same_fields (m ∷ ms) [] rest p q u h = absurd (let e : 32 ∷ ((decimal m ++ fields ms) ++ rest) ≡ [] = h in cc)
same_fields (m ∷ ms) (n ∷ ns) rest p q u h =
    let tail : (decimal m ++ fields ms) ++ rest ≡ decimal n ++ fields ns = cc in
    let both = same_number m n (fields ms ++ rest) (fields ns) p.0 q.0 (after ms rest (u (omega arith))) (fields-ended ns) (sym (append_assoc (decimal m) (fields ms) rest) ∙ tail) in
    let later = same_fields ms ns rest p.1 q.1 (λ _. u (omega arith)) both.1 in
    (omega (arith, later.0), later.1)
  where
    after : (ms rest : List ℕ) → EndsNumber rest → EndsNumber (fields ms ++ rest)
    after [] rest h = h
    after (m ∷ ms) rest h = space ((decimal m ++ fields ms) ++ rest)

short-drop : (i : ℕ) (ns : List ℕ) → AreShort ns → AreShort (drop i ns)
short-drop zero ns h = h
short-drop (suc i) [] h = tt
short-drop (suc i) (n ∷ ns) h = short-drop i ns h.1

-- where no field follows the numbers, no more numbers do
pub no_more_fields : (ms ns bytes rest : List ℕ) → AreShort ms → AreShort ns → (0 < length ms → EndsNumber rest) → bytes ≡ fields ms ++ rest
    → length ms < length ns → IsWithoutField rest → bytes ≢ fields ns
no_more_fields ms ns bytes rest p q u e more none h =
    let later = same_fields ms ns rest p q u (sym e ∙ h) in
    here (drop (length ms) ns) (short-drop (length ms) ns q) (omega (arith, length-drop (length ms) ns)) later.1
  where
    here : (ns : List ℕ) → AreShort ns → 0 < length ns → rest ≡ fields ns → ⊥
    here [] q some h = omega arith
    here (n ∷ ns) q some h = none n (fields ns) (record { short = q.0; ended = fields-ended ns; parts = h })

-- where something follows the numbers, they aren't all
pub no_fewer_fields : (ms ns bytes rest : List ℕ) → AreShort ms → AreShort ns → (0 < length ms → EndsNumber rest) → bytes ≡ fields ms ++ rest
    → length ms ≡ length ns → 0 < length rest → bytes ≢ fields ns
no_fewer_fields ms ns bytes rest p q u e same some h =
    let later = same_fields ms ns rest p q u (sym e ∙ h) in
    let none : drop (length ms) ns ≡ [] = drop_all (length ms) ns (omega (arith, same)) in
    omega (arith, ap length (later.1 ∙ ap fields none))

-- where something follows the numbers that is no field, no numbers are the whole
pub no_fields : (ms ns bytes rest : List ℕ) → AreShort ms → AreShort ns → (0 < length ms → EndsNumber rest) → bytes ≡ fields ms ++ rest
    → 0 < length rest → IsWithoutField rest → bytes ≢ fields ns
no_fields ms ns bytes rest p q u e some none h =
    let later = same_fields ms ns rest p q u (sym e ∙ h) in
    here (drop (length ms) ns) (short-drop (length ms) ns q) later.1
  where
    here : (ns : List ℕ) → AreShort ns → rest ≡ fields ns → ⊥
    here [] q parts = omega (arith, ap length parts)
    here (n ∷ ns) q parts = none n (fields ns) (record { short = q.0; ended = fields-ended ns; parts = parts })

-- digits after a space that are no number
pub no_field : (bytes rest : List ℕ) (count : ℕ) (front : List ℕ) → bytes ≡ 32 ∷ rest → AreDigits (take count rest) → EndsNumber (drop count rest)
    → front ≡ take count rest → ((n : ℕ) → n < 10 ^ 9 → front ≢ decimal n) → IsWithoutField bytes
no_field bytes rest count front spaced digits ended same none n later h =
    let tail : rest ≡ decimal n ++ later = let whole : 32 ∷ rest ≡ 32 ∷ (decimal n ++ later) = sym spaced ∙ h.parts in cc in
    let both = same_digits (take count rest) (decimal n) (drop count rest) later digits (digits_decimal own n (omega (arith, h.short))) ended h.ended
    (take-append-drop count rest ∙ tail) in
    none n h.short (same ∙ both.0)

pub nothing-more : (xs rest : List ℕ) → length rest ≡ 0 → xs ++ rest ≡ xs
nothing-more xs [] h = append-nil xs
nothing-more xs (b ∷ rest) h = absurd (omega arith)

-- numbers have one spelling
pub same_numbers : (ms ns : List ℕ) → AreShort ms → AreShort ns → fields ms ≡ fields ns → ms ≡ ns
same_numbers [] [] p q h = refl
same_numbers [] (n ∷ ns) p q h = absurd (let e : [] ≡ 32 ∷ (decimal n ++ fields ns) = h in cc)
same_numbers (m ∷ ms) [] p q h = absurd (let e : 32 ∷ (decimal m ++ fields ms) ≡ [] = h in cc)
same_numbers (m ∷ ms) (n ∷ ns) p q h =
    let tail : decimal m ++ fields ms ≡ decimal n ++ fields ns = let e : 32 ∷ (decimal m ++ fields ms) ≡ 32 ∷ (decimal n ++ fields ns) = h in cc in
    let both = same_number m n (fields ms) (fields ns) p.0 q.0 (fields-ended ms) (fields-ended ns) tail in
    let later = same_numbers ms ns p.1 q.1 both.1 in
    let head : m ≡ n = both.0 in cc

-- numbers, each after a space, before some bytes
abbrev pub fields_onto : List ℕ → List ℕ → List ℕ
fields_onto [] rest = rest
fields_onto (n ∷ ns) rest = 32 ∷ (decimal n ++ fields_onto ns rest)

pub fields_onto-is : (ns rest : List ℕ) → fields_onto ns rest ≡ fields ns ++ rest
fields_onto-is [] rest = refl
fields_onto-is (n ∷ ns) rest = ap (λ xs. 32 ∷ (decimal n ++ xs)) (fields_onto-is ns rest) ∙ ap (λ xs. 32 ∷ xs) (sym (append_assoc (decimal n) (fields ns) rest))
