-- The largest of the numbers at some places, and the first place that has it.
use Rattle.std.specs.Prelude.{◌≡◌, ℕ, List, [], ◌∷◌, nat_le, if◌then◌else◌}
use Rattle.mss_pctl.specs.Peaks.{Place}
use Rattle.mss_pctl.specs.declared.first_largest.FirstLargest.{FirstLargest}

-- the number at a place
abbrev pub at_place : (Place → ℕ) → Place → FirstLargest
at_place value place = record { number = value place; ward = place.ward; day = place.day }

-- the larger of two, and the first where they are equal
abbrev pub larger : FirstLargest → FirstLargest → FirstLargest
larger a b = if nat_le b.number a.number then a else b

-- the largest, with its first place
abbrev pub first_largest : (Place → ℕ) → List Place → FirstLargest
first_largest value [] = record { number = 0; ward = 0; day = 0 }
first_largest value (place ∷ places) = larger (at_place value place) (first_largest value places)

-- It is the largest of the numbers at these places, with its first place; its ward is 0 only where there is no place.
pub record IsFirstLargest (value : Place → ℕ) (places : List Place) (l : FirstLargest) : Type 0 where
  pub is : l ≡ first_largest value places
  pub none : l.ward ≡ 0 → places ≡ []
