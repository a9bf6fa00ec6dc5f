-- The names of the files that have a number.
use Rattle.std.specs.Prelude.{ℕ, List, [], map, take, slice_index_or}
use Rattle.mss_model.specs.declared.files.TheConstants.{FILE_NAMES, TABLE_FILES}

-- the names of all files, by their numbers from 0
abbrev pub file_names : List (List ℕ)
file_names = map (λ name. name.now) FILE_NAMES

-- the name of the file with this number; no name above the last
abbrev pub file_name : ℕ → List ℕ
file_name file = slice_index_or file_names file []

-- the names of the files that a set of tables is read from, in the order in which they are read
abbrev pub table_names : List (List ℕ)
table_names = take TABLE_FILES file_names
