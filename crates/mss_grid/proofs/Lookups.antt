-- The place of a name among others.
use Rattle.std.proofs.Common.{◌≡◌, ◌<◌, ◌≤◌, ℕ, true, false, List, [], Ok, Err, get_or, length, nat_lt, refl, arith}
use Rattle.std.specs.Str.{bytes_eq}
use Rattle.std.proofs.lemmas.Bool.Decides.{nat_tests}
use Rattle.std.proofs.lemmas.List.Sums.{position_or_len_is}
use Rattle.mss_model.specs.declared.faults.Kind.TheVariants as kind
use Rattle.mss_grid.specs.Columns.{place_of}

-- the first name that is equal
pub first-place : (names : List (List ℕ)) (name : List ℕ) (place : ℕ) → place < length names
    → ((k : ℕ) → k < place → bytes_eq name (get_or names k []) ≡ false) → bytes_eq name (get_or names place []) ≡ true → Ok place ≡ place_of names name
first-place names name place h before here =
    let at = position_or_len_is (bytes_eq name) names place [] (omega arith) before (λ k. here) in
    let within : nat_lt place (length names) ≡ true = grind (arith, nat_tests) in
    rw (at, within) refl

-- no name is equal
pub no-place : (names : List (List ℕ)) (name : List ℕ) (count : ℕ) → length names ≤ count
    → ((k : ℕ) → k < count → bytes_eq name (get_or names k []) ≡ false) → Err kind.Unknown ≡ place_of names name
no-place names name count e before =
    let at = position_or_len_is (bytes_eq name) names (length names) [] (omega arith) (λ k h. before k (omega arith)) (λ k. absurd (omega arith)) in
    let past : nat_lt (length names) (length names) ≡ false = grind (arith, nat_tests) in
    rw (at, past) refl
