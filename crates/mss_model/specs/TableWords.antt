-- What tables say of slots, specialties, wards and kinds of equipment.
--
-- Days, rooms, specialties, wards and kinds count from 1, and slots from 0: day by day and within a day room by room.
-- Option 0 is idle, and option j is specialty j.
use Rattle.std.specs.Prelude.{ℕ, zero, suc, ◌+◌, ◌*◌, ◌-◌, ◌/◌, ◌%◌, Bool, ◌==◌, List, [], length, get_or, slice_index, Option, Some, None}
use Rattle.std.specs.List.{list_any}
use Rattle.mss_model.specs.BlockAtAge.{BlockView, no_block}
use Rattle.mss_model.specs.declared.parts.TableParts.{TableParts}

abbrev pub room_count : TableParts → ℕ
room_count t = length t.rooms

abbrev pub slot_count : TableParts → ℕ
slot_count t = t.days * room_count t

abbrev pub specialty_count : TableParts → ℕ
specialty_count t = length t.specialties

-- the specialties, and idle
abbrev pub option_count : TableParts → ℕ
option_count t = specialty_count t + 1

abbrev pub ward_count : TableParts → ℕ
ward_count t = length t.wards

abbrev pub kind_count : TableParts → ℕ
kind_count t = length t.equipment

-- the day and the room of a slot
abbrev pub day_of : TableParts → ℕ → ℕ
day_of t slot = slot / room_count t + 1

abbrev pub room_of : TableParts → ℕ → ℕ
room_of t slot = slot % room_count t + 1

abbrev pub minutes_at : TableParts → ℕ → ℕ
minutes_at t slot = slice_index t.minutes slot

-- what a specialty has
abbrev pub block_of : TableParts → ℕ → BlockView
block_of t j = get_or t.blocks (j - 1) no_block

abbrev pub ward_at : TableParts → ℕ → ℕ
ward_at t j = slice_index t.ward_of (j - 1)

abbrev pub daily_at : TableParts → ℕ → ℕ
daily_at t j = slice_index t.daily (j - 1)

abbrev pub low_at : TableParts → ℕ → ℕ
low_at t j = slice_index t.low (j - 1)

abbrev pub high_at : TableParts → ℕ → ℕ
high_at t j = slice_index t.high (j - 1)

abbrev pub units_at : TableParts → ℕ → ℕ
units_at t kind = slice_index t.units (kind - 1)

-- the place of a row and a column, both from 1, in a table with so many columns
abbrev pub cell : ℕ → ℕ → ℕ → ℕ
cell columns row column = (row - 1) * columns + (column - 1)

-- the units of a kind that a block of a specialty takes
abbrev pub need_at : TableParts → ℕ → ℕ → ℕ
need_at t j kind = slice_index t.needs (cell (kind_count t) j kind)

abbrev pub is_unsuited : TableParts → ℕ → ℕ → Bool
is_unsuited t j room = slice_index t.unsuited (cell (room_count t) j room) == 1

abbrev pub is_barred : TableParts → ℕ → ℕ → Bool
is_barred t j day = slice_index t.barred (cell t.days j day) == 1

-- 0 stands for free, and any other number for the option below it
abbrev pub option_of_code : ℕ → Option ℕ
option_of_code zero = None
option_of_code (suc option) = Some option

-- the option that a slot is to have, where it isn't free
abbrev pub fixed_at : TableParts → ℕ → Option ℕ
fixed_at t slot = option_of_code (slice_index t.fixed slot)

abbrev pub is_watched : TableParts → ℕ → Bool
is_watched t ward = list_any (λ watched. watched == ward) t.watch

-- the beds of a ward that are always taken
abbrev pub allow_at : TableParts → ℕ → ℕ
allow_at t ward = slice_index t.allow (ward - 1)

abbrev pub name_at : List (List ℕ) → ℕ → List ℕ
name_at names number = get_or names (number - 1) []
