-- Fields that pass their column, and the places that they name.
use Rattle.std.proofs.Common.{◌≡◌, ◌≢◌, ◌<◌, ◌+◌, ◌-◌, ℕ, zero, suc, true, false, List, [], ◌∷◌, Some, None, Ok, get_or, length, nat_lt, refl, sym, inl, inr, arith}
use Rattle.std.specs.List.{position_or_len}
use Rattle.std.specs.Str.{bytes_eq}
use Rattle.std.proofs.lemmas.Bool.{cases_Bool}
use Rattle.std.proofs.lemmas.Bool.Decides.{nat_tests}
use Rattle.std.proofs.lemmas.Slice.Eq.{bytes_eq-Decides}
use Rattle.mss_model.specs.Limits.{AreNamesDistinct}
use Rattle.mss_model.specs.NameRule.{is_name_text}
use Rattle.mss_rows.specs.Faults.{number_fault}
use Rattle.mss_rows.specs.Fields.{number_in}
use Rattle.mss_grid.specs.Columns.{Column, among, option, place_of, says_idle, whole}

position-at : (names : List (List ℕ)) (name : List ℕ) (i : ℕ) → i < length names → get_or names i [] ≡ name → ((k : ℕ) → k < i → get_or names k [] ≢ name)
    → position_or_len (bytes_eq name) names ≡ i
position-at [] name i h at differs = absurd (omega arith)
position-at (x ∷ xs) name zero h at differs = rw ((bytes_eq-Decides name x).1 (sym at)) refl
position-at (x ∷ xs) name (suc i) h at differs = elim (cases_Bool (bytes_eq name x)) [
  | inl is ↦ absurd (differs 0 (omega arith) (sym ((bytes_eq-Decides name x).0 is)))
  | inr is ↦ rw is (let e = position-at xs name i (omega arith) at (λ k l. differs (suc k) (omega arith)) in omega arith)
]

-- a name among distinct names has its place
pub place-at : (names : List (List ℕ)) (place : ℕ) → AreNamesDistinct names → place < length names → place_of names (get_or names place []) ≡ Ok place
place-at names place distinct within =
    let at = position-at names (get_or names place []) place within refl (λ k before. distinct k place before within) in
    let below : nat_lt place (length names) ≡ true = grind (arith, nat_tests) in
    rw (at, below) refl

-- a field passes its column, and names this place
pub record IsField (column : Column) (field : List ℕ) (place : ℕ) : Type 0 where
  pub passes : column.form field ≡ Ok tt
  pub finds : column.find field ≡ Ok place

-- a name
pub name-field : (names : List (List ℕ)) (field : List ℕ) (place : ℕ) → is_name_text field ≡ true → place_of names field ≡ Ok place → IsField (among names) field place
name-field names field place good at = record { passes = rw good refl; finds = at }

-- an option that isn't idle names the place after that of its name
pub option-field : (names : List (List ℕ)) (field : List ℕ) (place : ℕ) → says_idle field ≡ false → is_name_text field ≡ true → place_of names field ≡ Ok place
    → IsField (option names) field (place + 1)
option-field names field place busy good at = record { passes = rw (busy, good) refl; finds = rw (busy, at) refl }

-- a number in its range names its place from the lowest
pub number-field : (low high : ℕ) (field : List ℕ) (n : ℕ) → number_fault low high field ≡ None → number_in field ≡ Some n → IsField (whole low high) field (n - low)
number-field low high field n good is = record { passes = rw good refl; finds = rw (good, is) refl }

-- a number from 0 on names itself
pub count-field : (high : ℕ) (field : List ℕ) (n : ℕ) → number_fault 0 high field ≡ None → number_in field ≡ Some n → IsField (whole 0 high) field n
count-field high field n good is = let same : n - 0 ≡ n = omega arith in rw same at (number-field 0 high field n good is)
