-- A lower number of the peaks of all legal cycles.
use Rattle.std.specs.Prelude.{◌≡◌, ℕ, ◌≤◌, List, ◌++◌, codes, decimal}
use Rattle.mss_model.specs.Legality.{IsLegal}
use Rattle.mss_model.specs.Peak.{peak_at}
use Rattle.mss_model.specs.declared.parts.TableParts.{TableParts}

-- each legal cycle peaks at least at the number, at the level of the tables
abbrev pub EachPeaksAt : TableParts → ℕ → Type 0
EachPeaksAt tables number = (cycle : List ℕ) → IsLegal tables cycle → number ≤ peak_at tables cycle tables.level

-- the text has a number behind these words, and each legal cycle peaks at least at it
pub record TellsLower (words : List ℕ) (tables : TableParts) (text : List ℕ) : Type 0 where
  pub number : ℕ
  pub exact : text ≡ words ++ decimal number ++ codes "\n"
  pub holds : EachPeaksAt tables number
