-- The place of a name among others.
use Rattle.std.proofs.Common.{◌≡◌, ◌<◌, ◌≤◌, ◌+◌, ℕ, suc, Bool, true, false, List, [], ◌∷◌, length, map, Some, None, position, not, cond, nat_lt, refl, arith, inl, inr}
use Rattle.std.proofs.lemmas.List.{length-map}
use Rattle.std.specs.List.{list_any, position_or_len}
use Rattle.std.proofs.lemmas.Bool.{cases_Bool}
use Rattle.std.proofs.lemmas.Bool.Decides.{nat_tests}
use Rattle.std.specs.Str.{bytes_eq}
use Rattle.mss_model.specs.Limits.{Between}
use Rattle.mss_names.specs.NameNumbers.{number_of}

position_or_len-map : {A B : Type 0} (test : B → Bool) (f : A → B) (xs : List A) → position_or_len test (map f xs) ≡ position_or_len (λ x. test (f x)) xs
position_or_len-map test f [] = refl
position_or_len-map test f (x ∷ xs) = rw (position_or_len-map test f xs) refl

pub position-map : {A B : Type 0} (test : B → Bool) (f : A → B) (xs : List A) → position test (map f xs) ≡ position (λ x. test (f x)) xs
position-map test f xs = rw (position_or_len-map test f xs, length-map xs f) refl

position_or_len-most : {A : Type 0} (test : A → Bool) (xs : List A) → position_or_len test xs ≤ length xs
position_or_len-most test [] = omega arith
position_or_len-most test (x ∷ xs) = elim (test x) as (λ b. cond (not b) (1 + position_or_len test xs) 0 ≤ suc (length xs)) [ true ↦ omega arith | false ↦ let h = position_or_len-most test xs in omega arith ]

-- what isn't found has its place past the end
pub position_or_len-none : {A : Type 0} (test : A → Bool) (xs : List A) → position test xs ≡ None → position_or_len test xs ≡ length xs
position_or_len-none test xs e = elim (cases_Bool (nat_lt (position_or_len test xs) (length xs))) [
  | inl below ↦ cc (rw below at e)
  | inr past ↦ let most = position_or_len-most test xs in grind (arith, nat_tests, most)
]

list_any-past : {A : Type 0} (test : A → Bool) (xs : List A) → position_or_len test xs ≡ length xs → list_any test xs ≡ false
list_any-past test [] e = refl
list_any-past test (x ∷ xs) e = elim (cases_Bool (test x)) [
  | inl passes ↦ let bad : 0 ≡ suc (length xs) = rw passes at e in cc
  | inr fails ↦ let e2 : 1 + position_or_len test xs ≡ suc (length xs) = rw fails at e in rw fails (list_any-past test xs (omega arith))
]

pub list_any-none : {A : Type 0} (test : A → Bool) (xs : List A) → position test xs ≡ None → list_any test xs ≡ false
list_any-none test xs e = list_any-past test xs (position_or_len-none test xs e)

-- a number is that of one of the names
pub number_of-between : (names : List (List ℕ)) (name : List ℕ) (n : ℕ) → number_of names name ≡ Some n → Between 1 (length names) n
number_of-between names name n e =
    let at = position_or_len (bytes_eq name) names in
    elim (cases_Bool (nat_lt at (length names))) [
      | inl below ↦ let k : suc at ≡ n = cc (rw below at e) in let most : at < length names = grind (arith, nat_tests) in (omega arith, omega arith)
      | inr past ↦ cc (rw past at e)
    ]
