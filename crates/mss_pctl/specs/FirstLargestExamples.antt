-- Worked examples of the first largest number, each proved by computing.
use Rattle.std.specs.Prelude.{◌≡◌, ℕ, ◌*◌, [], ◌∷◌, refl}
use Rattle.mss_pctl.specs.Peaks.{Place}
use Rattle.mss_pctl.specs.FirstLargest.{first_largest}

abbrev place : ℕ → ℕ → Place
place ward day = record { ward = ward; day = day }

abbrev product : Place → ℕ
product p = p.ward * p.day

-- no place: ward 0
of_nothing : first_largest product [] ≡ record { number = 0; ward = 0; day = 0 }
of_nothing = refl

-- 6 stands on ward 2 first, and again on ward 3
first_of_two : first_largest product (place 1 5 ∷ place 2 3 ∷ place 3 2 ∷ place 3 1 ∷ []) ≡ record { number = 6; ward = 2; day = 3 }
first_of_two = refl

-- a number of 0 has its place too
of_nobody : first_largest (λ p. 0) (place 1 1 ∷ place 1 2 ∷ []) ≡ record { number = 0; ward = 1; day = 1 }
of_nobody = refl
