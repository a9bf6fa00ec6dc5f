-- The columns of a file: what a field of each may be, and the place that it names.
use Rattle.std.specs.Prelude.{◌+◌, ◌-◌, ℕ, Bool, List, Option, Some, None, Result, Ok, Err, codes, length, position, if◌then◌else◌}
use Rattle.std.specs.Str.{bytes_eq}
use Rattle.mss_model.specs.declared.faults.Kind.{Kind}
use Rattle.mss_model.specs.declared.faults.Kind.TheVariants as kind
use Rattle.mss_rows.specs.Faults.{name_fault, number_fault}
use Rattle.mss_rows.specs.Fields.{number_in}
use Rattle.mss_grid.specs.declared.column.Column.{Column as Declared}
use Rattle.mss_grid.specs.declared.column.Column.TheVariants as column

-- no fault, or this one
abbrev pub passes : Option Kind → Result (Unit {0}) Kind
passes None = Ok tt
passes (Some fault) = Err fault

-- a look-up finds a place
abbrev pub found : Option ℕ → Result ℕ Kind
found None = Err kind.Unknown
found (Some place) = Ok place

-- the place of a name among these, from 0
abbrev pub place_of : List (List ℕ) → List ℕ → Result ℕ Kind
place_of names name = found (position (bytes_eq name) names)

-- a column: the fault of a field by itself, the place that a field names, and how many places there are
pub record Column : Type 0 where
  pub form : List ℕ → Result (Unit {0}) Kind
  pub find : List ℕ → Result ℕ Kind
  pub width : ℕ

-- a name that may be new
abbrev pub name : Column
name = record { form = λ field. passes (name_fault field); find = λ field. Ok 0; width = 1 }

-- a name among these
abbrev pub among : List (List ℕ) → Column
among names = record { form = λ field. passes (name_fault field); find = place_of names; width = length names }

-- the field says idle
abbrev pub says_idle : List ℕ → Bool
says_idle field = bytes_eq field (codes "-")

abbrev pub option_form : List ℕ → Result (Unit {0}) Kind
option_form field = if says_idle field then Ok tt else passes (name_fault field)

abbrev pub next : Result ℕ Kind → Result ℕ Kind
next (Ok place) = Ok (place + 1)
next (Err fault) = Err fault

abbrev pub option_place : List (List ℕ) → List ℕ → Result ℕ Kind
option_place names field = if says_idle field then Ok 0 else next (place_of names field)

-- idle, which is 0, or a name among these
abbrev pub option : List (List ℕ) → Column
option names = record { form = option_form; find = option_place names; width = length names + 1 }

-- the number of a field from the lowest, where the field has no fault
abbrev pub above : ℕ → Option Kind → Option ℕ → Result ℕ Kind
above low (Some fault) number = Err fault
above low None (Some number) = Ok (number - low)
above low None None = Err kind.Number

-- a whole number in a range
abbrev pub whole : ℕ → ℕ → Column
whole low high = record {
  form = λ field. passes (number_fault low high field);
  find = λ field. above low (number_fault low high field) (number_in field);
  width = high + 1 - low;
}

-- the column that the code describes
abbrev pub column_of : Declared → Column
column_of column.Name = name
column_of (column.Among names) = among names.now
column_of (column.Option names) = option names.now
column_of (column.Whole low high) = whole low high

abbrev pub form_of : Declared → List ℕ → Result (Unit {0}) Kind
form_of described field = (column_of described).form field

abbrev pub find_of : Declared → List ℕ → Result ℕ Kind
find_of described field = (column_of described).find field

abbrev pub width_of : Declared → ℕ
width_of described = (column_of described).width
