-- The generated files as they are put.
use Rattle.std.specs.Prelude.{ℕ, List, [], map, get_or}
use Rattle.std.specs.List.{range_with_len}
use Rattle.mss_model.specs.Files.{file_name}
use Rattle.mss_model.specs.declared.files.TheConstants.{TABLE_FILES}

-- the first so many of these files, each under its name
abbrev pub first_puts : ℕ → List (List ℕ) → List (List ℕ × List ℕ)
first_puts count files = map (λ file. (file_name file, get_or files file [])) (range_with_len 0 count)

-- all files of the tables, in the order of their numbers
abbrev pub table_puts : List (List ℕ) → List (List ℕ × List ℕ)
table_puts files = first_puts TABLE_FILES files
