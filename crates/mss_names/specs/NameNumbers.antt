-- Names and their numbers.
use Rattle.std.specs.Prelude.{ℕ, suc, List, Option, option_map, position}
use Rattle.std.specs.Str.{bytes_eq}

-- the names of a table, in the order in which they were first added, and the most that there may be
pub record NamesView : Type 0 where
  pub limit : ℕ
  pub names : List (List ℕ)

-- the number of a name among others: its first place, from 1
abbrev pub number_of : List (List ℕ) → List ℕ → Option ℕ
number_of names name = option_map suc (position (bytes_eq name) names)
