-- Occurrences: the blocks and ages that meet on a ward and day.
use Rattle.std.specs.Prelude.{ℕ, zero, suc, ◌+◌, ◌-◌, ◌%◌, Bool, false, List, [], ◌∷◌, ◌++◌, length, map, eqb, slice_index, if◌then◌else◌}
use Rattle.std.specs.List.{filter, range_with_len}
use Rattle.mss_model.specs.declared.parts.TableParts.{TableParts}
use Rattle.mss_model.specs.TableWords.{block_of, day_of}

-- Whether the patients of a slot's option lie on a ward: option j is specialty j, and option 0, an idle slot, has no
-- patients. `ward_of` has the ward of each specialty.
abbrev pub lies_on : List ℕ → ℕ → ℕ → Bool
lies_on ward_of ward zero = false
lies_on ward_of ward (suc j) = eqb (slice_index ward_of j) ward

-- how many days the slots of day q lie before day t, in a cycle of so many days, where days count from 1
abbrev pub offset : ℕ → ℕ → ℕ → ℕ
offset days t q = (t + days - q) % days

-- The ages below `ages` at which a patient is seen so many days after the slot's day of the cycle, in rising order: the
-- cycle repeats, so one offset meets a stay again and again.
abbrev pub offset_ages : ℕ → ℕ → ℕ → List ℕ
offset_ages days ages o = filter (λ n. eqb (n % days) o) (range_with_len 0 ages)

-- A block of a specialty, whose patients are so many days past the day of surgery.
pub record Occurrence : Type 0 where
  pub specialty : ℕ
  pub age : ℕ

-- The occurrences that a slot with this option gives to a ward on a day. Earlier cycles count too: their patients are
-- the ages of a whole cycle and more.
abbrev pub slot_occurrences : TableParts → ℕ → ℕ → ℕ → ℕ → List Occurrence
slot_occurrences tables ward day slot option =
    if lies_on tables.ward_of ward option
    then map (λ n. record { specialty = option; age = n })
    (offset_ages tables.days (length (block_of tables option).stays) (offset tables.days day (day_of tables slot)))
    else []

-- slot by slot, where the first of these options is that of the given slot
abbrev pub occurrences_from : TableParts → ℕ → ℕ → ℕ → List ℕ → List Occurrence
occurrences_from tables ward day slot [] = []
occurrences_from tables ward day slot (option ∷ options) =
    slot_occurrences tables ward day slot option ++ occurrences_from tables ward day (slot + 1) options

-- The occurrences that meet on a ward and day under these options of the first slots. All further slots are idle.
abbrev pub occurrences : TableParts → ℕ → ℕ → List ℕ → List Occurrence
occurrences tables ward day options = occurrences_from tables ward day 0 options
