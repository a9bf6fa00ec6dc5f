-- Lines: the first one ends at the first line end.
use Rattle.std.proofs.Common.{◌≡◌, ℕ, ◌<◌, ◌^◌, List, [], ◌∷◌, ◌++◌, refl, sym, ◌∙◌, arith, decimal, Bool, true, false, not, ◌&&◌, nat_eq, inl, inr}
use Rattle.std.proofs.lemmas.Bool.Decides.{eqb_tells}
use Rattle.std.proofs.lemmas.Fmt.{digits_decimal}
use Rattle.mss_lines.specs.Fields.{fields, AreShort, AreDigits}
use Rattle.mss_lines.specs.Lines.{IsOneLine}
use Rattle.mss_lines.specs.DigitsLaws.{own}

pub one_line-append : (xs ys : List ℕ) → IsOneLine xs → IsOneLine ys → IsOneLine (xs ++ ys)
one_line-append [] ys p q = q
one_line-append (x ∷ xs) ys p q = (p.0, one_line-append xs ys p.1 q)

pub digits-one_line : (ds : List ℕ) → AreDigits ds → IsOneLine ds
digits-one_line [] h = tt
digits-one_line (d ∷ ds) h = ((λ e. omega (arith, h.0)), digits-one_line ds h.1)

pub number-one_line : (n : ℕ) → n < 10 ^ 9 → IsOneLine (decimal n)
number-one_line n h = digits-one_line (decimal n) (digits_decimal own n (omega arith))

pub fields-one_line : (ns : List ℕ) → AreShort ns → IsOneLine (fields ns)
fields-one_line [] h = tt
fields-one_line (n ∷ ns) h = ((λ e. omega arith), one_line-append (decimal n) (fields ns) (number-one_line n h.0) (fields-one_line ns h.1))

-- the first line ends at the first line end
pub no_end_in : (xs ys : List ℕ) → IsOneLine (xs ++ (10 ∷ ys)) → ⊥
no_end_in [] ys h = h.0 refl
no_end_in (x ∷ xs) ys h = no_end_in xs ys h.1

pub same_line : (xs ys v w : List ℕ) → IsOneLine xs → IsOneLine ys → xs ++ (10 ∷ v) ≡ ys ++ (10 ∷ w) → (xs ≡ ys) × (v ≡ w)
same_line [] [] v w p q h = (refl, let e : 10 ∷ v ≡ 10 ∷ w = h in cc)
same_line [] (y ∷ ys) v w p q h = absurd (q.0 (let e : 10 ∷ v ≡ y ∷ (ys ++ (10 ∷ w)) = h in cc))
same_line (x ∷ xs) [] v w p q h = absurd (p.0 (let e : x ∷ (xs ++ (10 ∷ v)) ≡ 10 ∷ w = h in cc))
same_line (x ∷ xs) (y ∷ ys) v w p q h =
    let tail : xs ++ (10 ∷ v) ≡ ys ++ (10 ∷ w) = let e : x ∷ (xs ++ (10 ∷ v)) ≡ y ∷ (ys ++ (10 ∷ w)) = h in cc in
    let head : x ≡ y = let e : x ∷ (xs ++ (10 ∷ v)) ≡ y ∷ (ys ++ (10 ∷ w)) = h in cc in
    let later = same_line xs ys v w p.1 q.1 tail in
    let all : x ∷ xs ≡ y ∷ ys = cc (later.0) in (all, later.1)

-- a text whose bytes are all other than 10
unfoldable pub is_one_line : List ℕ → Bool
is_one_line [] = true
is_one_line (b ∷ bs) = not (nat_eq b 10) && is_one_line bs

pub tells_one_line : (bs : List ℕ) → is_one_line bs ≡ true → IsOneLine bs
unfolding is_one_line
tells_one_line [] h = tt
tells_one_line (b ∷ bs) h = elim (eqb_tells b 10) [
  | inl w ↦ absurd (let e : not (nat_eq b 10) && is_one_line bs ≡ false = rw w.0 refl in cc)
  | inr w ↦ (w.1, tells_one_line bs (sym (let e : not (nat_eq b 10) && is_one_line bs ≡ is_one_line bs = rw w.0 refl in e) ∙ h))
]
