-- How the floor of some lists is found: list by list, the greatest cumulative number so far at each outcome.
use Rattle.std.specs.Prelude.{◌≡◌, ℕ, ◌<◌, List, [], ◌∷◌, get_or, sum, Bool, if◌then◌else◌}
use Rattle.mss_model.specs.declared.parts.TableParts.{TableParts}
use Rattle.mss_model.specs.TableWords.{block_of}
use Rattle.mss_model.specs.Occurrences.{offset}
use Rattle.mss_enclose.specs.Unit.{unit}
use Rattle.mss_enclose.specs.Kept.{raised}
use Rattle.mss_floor.specs.FloorLists.{greatest_cumulative, shortest, steady_list}
use Rattle.mss_floor.specs.declared.floors.TheConstants.{FLOOR_ROOM}

-- how long the floor of these lists is, or 0 where there are none
abbrev pub floor_length : List (List ℕ) → ℕ
floor_length [] = 0
floor_length (a ∷ lists) = shortest a lists

-- So many numbers are the greatest cumulative numbers of these lists; where there are no lists, all are 0.
pub record AreSums (lists : List (List ℕ)) (sums : List ℕ) (len : ℕ) : Type 0 where
  pub long : len ≡ floor_length lists
  pub here : (x : ℕ) → x < len → get_or sums x 0 ≡ greatest_cumulative lists x
  pub none : len ≡ 0 → (x : ℕ) → get_or sums x 0 ≡ 0

-- all lists are full
abbrev pub AreFull : List (List ℕ) → Type 0
AreFull [] = Unit {0}
AreFull (a ∷ lists) = (sum a ≡ unit) × AreFull lists

-- room for each floor
pub record AreFloors (sums floor : ℕ) : Type 0 where
  pub sums_room : sums ≡ FLOOR_ROOM
  pub floor_room : floor ≡ FLOOR_ROOM

-- what one day adds to the lists, where it counts
abbrev pub day_choice : TableParts → ℕ → ℕ → ℕ → Bool → List (List ℕ)
day_choice t j day q counts = if counts then raised (steady_list t.days (block_of t j) (offset t.days day q)) ∷ [] else []
