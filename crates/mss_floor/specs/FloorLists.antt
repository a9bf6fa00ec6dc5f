-- The floor of some lists: the least list that lies at or below each of them.
use Rattle.std.specs.Prelude.{ℕ, zero, suc, ◌+◌, ◌-◌, Bool, ◌&&◌, ◌==◌, List, [], ◌∷◌, length, map, max, min}
use Rattle.std.specs.List.{filter, range_with_len}
use Rattle.mss_model.specs.declared.parts.TableParts.{TableParts}
use Rattle.mss_model.specs.TableWords.{slot_count, block_of, day_of}
use Rattle.mss_model.specs.Occurrences.{offset}
use Rattle.mss_model.specs.Percentile.{cumulative}
use Rattle.mss_model.specs.Legality.{could_take, some_below}
use Rattle.mss_enclose.specs.Unit.{unit}
use Rattle.mss_enclose.specs.Kept.{raised}
use Rattle.mss_model.specs.BlockAtAge.{BlockView}
use Rattle.mss_thin.specs.BlockLists.{kept_at_age}
use Rattle.mss_thin.specs.SteadyLists.{offset_list, steady_lists}

-- the greatest of the cumulative numbers of some lists at an outcome
abbrev pub greatest_cumulative : List (List ℕ) → ℕ → ℕ
greatest_cumulative [] x = 0
greatest_cumulative (a ∷ lists) x = max (cumulative a x) (greatest_cumulative lists x)

-- the length of the shortest of a list and others
abbrev pub shortest : List ℕ → List (List ℕ) → ℕ
shortest a [] = length a
shortest a (b ∷ lists) = min (length b) (shortest a lists)

-- what a function grows by at a number
abbrev pub growth : (ℕ → ℕ) → ℕ → ℕ
growth f zero = f zero
growth f (suc x) = f (suc x) - f x

-- the list of n numbers that has these cumulative numbers
abbrev pub with_cumulative : (ℕ → ℕ) → ℕ → List ℕ
with_cumulative f n = map (growth f) (range_with_len 0 n)

-- The floor of some lists has at each outcome the greatest of their cumulative numbers, and is as long as the shortest.
-- The floor of none is the list of no patients.
abbrev pub floor_of : List (List ℕ) → List ℕ
floor_of [] = unit ∷ []
floor_of (a ∷ lists) = with_cumulative (greatest_cumulative (a ∷ lists)) (shortest a lists)

-- the steady list of a block at an offset
abbrev pub steady_list : ℕ → BlockView → ℕ → List ℕ
steady_list days b o = offset_list (kept_at_age b) days (length b.stays) o

-- whether a specialty could take an undecided slot of a day
abbrev pub is_open_day : TableParts → List ℕ → ℕ → ℕ → Bool
is_open_day t prefix j q =
    some_below (slot_count t - length prefix) (λ k. (day_of t (length prefix + k) == q) && could_take t (length prefix + k) j)

-- What one more block of a specialty may add to its ward on a day: for each day with an undecided slot that it could take,
-- the steady list at the offset of that day, with its rest on outcome 0.
abbrev pub choices : TableParts → List ℕ → ℕ → ℕ → List (List ℕ)
choices t prefix j day = map (λ q. raised (steady_list t.days (block_of t j) (offset t.days day q))) (filter (is_open_day t prefix j) (range_with_len 1 t.days))

-- the least that one more block of a specialty adds to its ward on a day
abbrev pub specialty_floor : TableParts → List ℕ → ℕ → ℕ → List ℕ
specialty_floor t prefix day j = floor_of (choices t prefix j day)

-- the steady lists of all specialties, one for each offset
abbrev pub steady_table : TableParts → List (List (List ℕ))
steady_table t = map (steady_lists t.days) t.blocks
