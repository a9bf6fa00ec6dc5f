-- How many blocks each specialty must still get after a prefix.
use Rattle.std.specs.Prelude.{◌≡◌, ◌≤◌, ℕ, zero, suc, ◌+◌, ◌-◌, ◌*◌, ◌&&◌, ◌==◌, List, [], ◌∷◌, length, nat_le, replicate, slice_index, if◌then◌else◌}
use Rattle.std.specs.List.{range_with_len, flat_map}
use Rattle.mss_model.specs.declared.parts.TableParts.{TableParts}
use Rattle.mss_model.specs.TableWords.{slot_count, specialty_count, minutes_at, low_at}
use Rattle.mss_model.specs.Occurrences.{lies_on}
use Rattle.mss_model.specs.Percentile.{least}
use Rattle.mss_model.specs.Peak.{largest_below}
use Rattle.mss_model.specs.Legality.{given_minutes, could_take}

-- the low minutes that a specialty still misses
abbrev pub missing : TableParts → List ℕ → ℕ → ℕ
missing t prefix j = low_at t j - given_minutes t prefix j

-- the minutes that a specialty could have in a slot
abbrev pub open_minutes : TableParts → ℕ → ℕ → ℕ
open_minutes t j slot = if could_take t slot j then minutes_at t slot else 0

-- the greatest minutes of an undecided slot that a specialty could take, or 0 where there is none
abbrev pub longest : TableParts → List ℕ → ℕ → ℕ
longest t prefix j = largest_below (slot_count t - length prefix) (λ k. open_minutes t j (length prefix + k))

-- The least number of blocks of so many minutes that make up what is missing. Blocks of no minutes make up nothing, and
-- their number is 0.
abbrev pub blocks_for : ℕ → ℕ → ℕ
blocks_for missing zero = 0
blocks_for missing (suc minutes) = least (suc missing) (λ m. nat_le missing (m * suc minutes))

-- how many blocks a specialty must still get
abbrev pub forced : TableParts → List ℕ → ℕ → ℕ
forced t prefix j = blocks_for (missing t prefix j) (longest t prefix j)

-- at the place of its number, how often each specialty is forced
abbrev pub AreForced : TableParts → List ℕ → List ℕ → Type 0
AreForced t prefix blocks = (j : ℕ) → 1 ≤ j → j ≤ specialty_count t → slice_index blocks j ≡ forced t prefix j

-- the specialties that must still get blocks on a ward, in the order of their numbers and each as often as it is forced
abbrev pub forced_blocks : TableParts → List ℕ → ℕ → List ℕ
forced_blocks t prefix ward =
    flat_map (λ j. if lies_on t.ward_of ward j then replicate (forced t prefix j) j else []) (range_with_len 1 (specialty_count t))

-- How many of these options, the first of which is that of the given slot, are blocks of a specialty in slots that it could
-- take.
abbrev pub blocks_from : TableParts → ℕ → ℕ → List ℕ → ℕ
blocks_from t j slot [] = 0
blocks_from t j slot (option ∷ options) =
    (if (option == j) && could_take t slot j then 1 else 0) + blocks_from t j (slot + 1) options
