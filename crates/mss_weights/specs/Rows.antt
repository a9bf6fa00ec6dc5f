-- The weights of the blocks: a row for each specialty, with a number for each offset.
use Rattle.std.specs.Prelude.{◌≡◌, ℕ, ◌+◌, ◌-◌, ◌^◌, ◌<◌, ◌≤◌, List, [], length, get_or}
use Rattle.mss_model.specs.declared.parts.TableParts.{TableParts}
use Rattle.mss_model.specs.BlockAtAge.{BlockView}
use Rattle.mss_model.specs.TableWords.{block_of}
use Rattle.mss_weights.specs.Steady.{steady_sum}
use Rattle.mss_weights.specs.Light.{Weighs}
use Rattle.mss_weights.specs.Powers.{base, base_parts}
use Rattle.mss_weights.specs.declared.scales.TheConstants.{MOST_WEIGHT}

-- the row of a block, as far as the offset `count`
pub record IsRow (power days : ℕ) (b : BlockView) (count : ℕ) (row : List ℕ) : Type 0 where
  pub long : length row ≡ count
  pub weighs : (o : ℕ) → o < count → Weighs base base_parts (base ^ power) (base_parts ^ power) (steady_sum days b o) (get_or row o 0)
  pub few : (o : ℕ) → get_or row o 0 ≤ MOST_WEIGHT

-- the rows of the first specialties
pub record AreRows (power : ℕ) (t : TableParts) (count : ℕ) (rows : List (List ℕ)) : Type 0 where
  pub long : length rows ≡ count
  pub each : (j : ℕ) → j < count → IsRow power t.days (block_of t (j + 1)) t.days (get_or rows j [])

-- the weight of a specialty and offset
abbrev pub weight_in : List (List ℕ) → ℕ → ℕ → ℕ
weight_in rows j o = get_or (get_or rows (j - 1) []) o 0
