-- Presence: the chance that a patient is still there at an age.
use Rattle.std.specs.Prelude.{ℕ, zero, suc, ◌-◌, ◌*◌, List, slice_index}

-- A patient who is there at an age is discharged on that day with the chance that `stays` has at the age, in these
-- parts, and is gone from the next age on. So the chance to be there at an age is presence / parts ^ age.
abbrev pub presence : ℕ → List ℕ → ℕ → ℕ
presence parts stays zero = 1
presence parts stays (suc age) = presence parts stays age * (parts - slice_index stays age)
