-- The limits of tables.
use Rattle.std.specs.Prelude.{◌≡◌, ◌≢◌, ℕ, ◌+◌, ◌*◌, ◌<◌, ◌≤◌, List, [], length, get_or, slice_index, true, false}
use Rattle.std.specs.List.{All}
use Rattle.mss_model.specs.BlockAtAge.{BlockView, IsParts, IsBlock, no_block}
use Rattle.mss_model.specs.NameRule.{is_name_text}
use Rattle.mss_model.specs.TableWords.{slot_count, specialty_count, ward_count, kind_count, room_count, is_watched}
use Rattle.mss_model.specs.declared.limits.TheConstants.{MOST_DAYS, MOST_ROOMS, MOST_SPECIALTIES, MOST_WARDS, MOST_KINDS, MOST_MINUTES, MOST_TARGET, MOST_DAILY, MOST_UNITS, MOST_LEVEL, MOST_LISTED, MOST_ALLOWANCE, MOST_BUDGET}
use Rattle.mss_model.specs.declared.parts.TableParts.{TableParts}

-- a number from low to high
abbrev pub Between : ℕ → ℕ → ℕ → Type 0
Between low high n = (low ≤ n) × (n ≤ high)

-- each number is from low to high
abbrev pub AreBetween : ℕ → ℕ → List ℕ → Type 0
AreBetween low high numbers = All (Between low high) numbers

-- so many numbers, each from low to high
pub record AreNumbers (n low high : ℕ) (numbers : List ℕ) : Type 0 where
  pub count : length numbers ≡ n
  pub between : AreBetween low high numbers

-- no two numbers are equal
abbrev pub AreDistinct : List ℕ → Type 0
AreDistinct numbers = (i j : ℕ) → i < j → j < length numbers → slice_index numbers i ≢ slice_index numbers j

-- no two names are equal
abbrev pub AreNamesDistinct : List (List ℕ) → Type 0
AreNamesDistinct names = (i j : ℕ) → i < j → j < length names → get_or names i [] ≢ get_or names j []

-- the name keeps the name rule
pub record IsName (name : List ℕ) : Type 0 where
  pub text : is_name_text name ≡ true

-- each name keeps the name rule
abbrev pub AreNamed : List (List ℕ) → Type 0
AreNamed names = (i : ℕ) → i < length names → IsName (get_or names i [])

-- from low to high names, of which no two are equal
pub record AreNames (low high : ℕ) (names : List (List ℕ)) : Type 0 where
  pub count : Between low high (length names)
  pub named : AreNamed names
  pub distinct : AreNamesDistinct names

-- the days and rooms, and what is said of each slot
pub record AreSlots (t : TableParts) : Type 0 where
  pub days : Between 1 MOST_DAYS t.days
  pub rooms : AreNames 1 MOST_ROOMS t.rooms
  pub minutes : AreNumbers (slot_count t) 0 MOST_MINUTES t.minutes
  pub fixed : AreNumbers (slot_count t) 0 (specialty_count t + 1) t.fixed

-- the chances of each block are in so many parts
abbrev pub AreInParts : ℕ → List BlockView → Type 0
AreInParts parts blocks = (place : ℕ) → place < length blocks → (get_or blocks place no_block).parts ≡ parts

-- the specialties with their wards, daily numbers and blocks, whose chances are all in the same parts
pub record AreSpecialties (t : TableParts) : Type 0 where
  pub names : AreNames 1 MOST_SPECIALTIES t.specialties
  pub wards : AreNames 1 MOST_WARDS t.wards
  pub ward_of : AreNumbers (specialty_count t) 1 (ward_count t) t.ward_of
  pub daily : AreNumbers (specialty_count t) 0 MOST_DAILY t.daily
  pub blocks : length t.blocks ≡ specialty_count t
  pub blocks_good : All IsBlock t.blocks
  pub parts_good : IsParts t.parts
  pub same_parts : AreInParts t.parts t.blocks

-- the minutes that each specialty is to have
pub record AreTargets (t : TableParts) : Type 0 where
  pub low : AreNumbers (specialty_count t) 0 MOST_TARGET t.low
  pub high : AreNumbers (specialty_count t) 0 MOST_TARGET t.high
  pub ordered : (i : ℕ) → i < specialty_count t → slice_index t.low i ≤ slice_index t.high i

-- what each specialty needs, and where and when it may not be
pub record AreNeeds (t : TableParts) : Type 0 where
  pub equipment : AreNames 0 MOST_KINDS t.equipment
  pub units : AreNumbers (kind_count t) 0 MOST_UNITS t.units
  pub needs : AreNumbers (specialty_count t * kind_count t) 0 MOST_UNITS t.needs
  pub unsuited : AreNumbers (specialty_count t * room_count t) 0 1 t.unsuited
  pub barred : AreNumbers (specialty_count t * t.days) 0 1 t.barred

-- the levels, the watched wards and the budget of the search
pub record AreSettings (t : TableParts) : Type 0 where
  pub level : Between 1 MOST_LEVEL t.level
  pub some_levels : Between 1 MOST_LISTED (length t.levels)
  pub levels : AreBetween 1 MOST_LEVEL t.levels
  pub some_watch : Between 1 MOST_LISTED (length t.watch)
  pub watch : AreBetween 1 (ward_count t) t.watch
  pub distinct : AreDistinct t.watch
  pub budget : Between 1 MOST_BUDGET t.budget

-- the beds that are always taken: a number for each ward, and none where its peak doesn't count
pub record AreAllowances (t : TableParts) : Type 0 where
  pub numbers : AreNumbers (ward_count t) 0 MOST_ALLOWANCE t.allow
  pub watched : (place : ℕ) → place < ward_count t → is_watched t (place + 1) ≡ false → slice_index t.allow place ≡ 0

-- tables within the limits
pub record IsTables (t : TableParts) : Type 0 where
  pub slots : AreSlots t
  pub specialties : AreSpecialties t
  pub targets : AreTargets t
  pub needs : AreNeeds t
  pub settings : AreSettings t
  pub allowances : AreAllowances t
