-- The list of a prefix with the floors of the blocks that are forced.
use Rattle.std.specs.Prelude.{◌≡◌, ℕ, zero, suc, ◌+◌, ◌-◌, ◌*◌, ◌<◌, ◌≤◌, List, [], ◌∷◌, length, map, sum, nat_le, if◌then◌else◌}
use Rattle.mss_model.specs.declared.parts.TableParts.{TableParts}
use Rattle.mss_model.specs.TableWords.{slot_count}
use Rattle.mss_model.specs.Percentile.{cumulative}
use Rattle.mss_enclose.specs.Unit.{unit}
use Rattle.mss_enclose.specs.Kept.{joined_all}
use Rattle.mss_census.specs.WardLists.{lists_of, census_list}
use Rattle.mss_floor.specs.ForcedBlocks.{forced_blocks}
use Rattle.mss_floor.specs.FloorLists.{specialty_floor}
use Rattle.mss_census.specs.declared.ward_census.TheConstants.{CENSUS_ROOM}

-- The parts that are pushed onto a list of this length: at most so many, and none from the first on that would make the
-- list longer than any census list.
abbrev pub fitting : ℕ → ℕ → List (List ℕ) → List (List ℕ)
fitting zero long parts = []
fitting (suc most) long [] = []
fitting (suc most) long (part ∷ parts) =
    if nat_le (long + length part) (CENSUS_ROOM + 1) then part ∷ fitting most (long + length part - 1) parts else []

-- the floors of a ward and day that are pushed onto a list of this length
abbrev pub floors_for : TableParts → List ℕ → ℕ → ℕ → ℕ → List (List ℕ)
floors_for t prefix ward day long =
    fitting (slot_count t - length prefix) long (map (specialty_floor t prefix day) (forced_blocks t prefix ward))

-- The floored list of a prefix at a ward and day, where `list` is its list there and `joined` the rule by which it takes
-- a part.
abbrev pub floored_list : (List ℕ → List ℕ → List ℕ) → TableParts → List ℕ → ℕ → ℕ → List ℕ → List ℕ
floored_list joined t prefix ward day list = joined_all joined list (floors_for t prefix ward day (length list))

-- the list of a prefix at a ward and day without floors, and that with floors
abbrev pub plain_list : (List ℕ → List ℕ → List ℕ) → TableParts → List ℕ → ℕ → ℕ → List ℕ
plain_list joined t prefix ward day = census_list joined (lists_of t) ward day prefix

abbrev pub floored_census : (List ℕ → List ℕ → List ℕ) → TableParts → List ℕ → ℕ → ℕ → List ℕ
floored_census joined t prefix ward day = floored_list joined t prefix ward day (plain_list joined t prefix ward day)

-- A full list lies stochastically at or below a distribution: it is no longer, and its cumulative numbers are at least the
-- exact cumulative chances.
pub record LiesBelow (full exact : List ℕ) : Type 0 where
  pub positive : 0 < sum exact
  pub whole : sum full ≡ unit
  pub no_longer : length full ≤ length exact
  pub above : (x : ℕ) → cumulative exact x * unit ≤ cumulative full x * sum exact
