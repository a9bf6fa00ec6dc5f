-- A grid: a file whose records each give one place, of a row and a column, its value.
use Rattle.std.specs.Prelude.{◌≡◌, ◌<◌, ◌+◌, ◌*◌, ℕ, ◌==◌, List, [], ◌∷◌, Option, Some, None, Result, Ok, Err, IfSome, get_or, map, if◌then◌else◌}
use Rattle.std.specs.List.{All, flat_map, range_with_len}
use Rattle.std.specs.Option.{is_some}
use Rattle.mss_model.specs.declared.faults.Kind.{Kind}
use Rattle.mss_rows.specs.Faults.{twice_fault}
use Rattle.mss_rows.specs.FirstFault.{body_of, file_fault}
use Rattle.mss_rows.specs.declared.refusal.Fault.{Fault}
use Rattle.mss_grid.specs.Columns.{Column, column_of}
use Rattle.mss_grid.specs.Reading.{◌>>=◌, judged}
use Rattle.mss_grid.specs.Record.{three_numbers, two_numbers}
use Rattle.mss_grid.specs.declared.grid.Grid.{Grid as Declared}

-- the columns of a grid; where there is no column of values, a record only marks its place
pub record Grid : Type 0 where
  pub row : Column
  pub column : Column
  pub value : Option Column

-- how many places there are
abbrev pub size : Grid → ℕ
size grid = grid.row.width * grid.column.width

-- one more than the greatest value
abbrev pub bound : Option Column → ℕ
bound None = 2
bound (Some value) = value.width

-- the place and the value of a record
abbrev pub entry_by : Column → Column → Option Column → List (List ℕ) → Result (ℕ × ℕ) Kind
entry_by row column None fields = do
  at ← two_numbers row column fields
  Ok (at.0 * column.width + at.1, 1)
entry_by row column (Some value) fields = do
  numbers ← three_numbers row column value fields
  Ok (numbers.first * column.width + numbers.second, numbers.third)

unfoldable pub entry : Grid → List (List ℕ) → Result (ℕ × ℕ) Kind
entry grid fields = entry_by grid.row grid.column grid.value fields

-- what a record reads
abbrev pub Entry : Type 0
Entry = List (List ℕ) → Result (ℕ × ℕ) Kind

-- the value that is read for a place, if this is the place
abbrev pub value_for : ℕ → Result (ℕ × ℕ) Kind → List ℕ
value_for place (Ok e) = if e.0 == place then e.1 ∷ [] else []
value_for place (Err fault) = []

abbrev pub first : List ℕ → Option ℕ
first [] = None
first (n ∷ rest) = Some n

-- the value of a place, where some record gives it one
abbrev pub value_at : Entry → List (List (List ℕ)) → ℕ → Option ℕ
value_at read rows place = first (flat_map (λ row. value_for place (read row)) rows)

-- the fault of what is read after these records
abbrev pub new_fault : Entry → List (List (List ℕ)) → Result (ℕ × ℕ) Kind → Option Kind
new_fault read before (Ok e) = twice_fault (is_some (value_at read before e.0))
new_fault read before (Err fault) = Some fault

-- the fault of a record after those before it
abbrev pub entry_fault : Entry → List (List (List ℕ)) → List (List ℕ) → Option Kind
entry_fault read before row = new_fault read before (read row)

-- the value of each of so many places, where some record gives it one
abbrev pub values_of : Entry → ℕ → List (List (List ℕ)) → List (Option ℕ)
values_of read places rows = map (value_at read rows) (range_with_len 0 places)

-- the file of a grid: the value of each place, where some record gives it one
unfoldable pub grid_at : List (List ℕ) → Grid → List (List (List ℕ)) → Result (List (Option ℕ)) Fault
grid_at header grid all = judged (file_fault header (entry_fault (entry grid)) all) (values_of (entry grid) (size grid) (body_of all))

-- the cells hold what some records give
pub record Holds (read : Entry) (places most : ℕ) (cells : List (Option ℕ)) (rows : List (List (List ℕ))) : Type 0 where
  pub given : (place : ℕ) → place < places → get_or cells place None ≡ value_at read rows place
  pub few : All (λ held. IfSome held (λ value. value < most)) cells

-- the grid that the code describes
abbrev pub value_of : Option (Rattle.mss_grid.specs.declared.column.Column.Column) → Option Column
value_of None = None
value_of (Some described) = Some (column_of described)

abbrev pub grid_of : Declared → Grid
grid_of described = record { row = column_of described.row; column = column_of described.column; value = value_of described.value }
