-- What the kept lists of the tables weigh: the numbers that the checker goes by.
use Rattle.std.specs.Prelude.{ℕ, ◌+◌, ◌-◌, ◌*◌, ◌/◌, List, length, get_or, map}
use Rattle.std.specs.List.{range_with_len}
use Rattle.mss_model.specs.declared.parts.TableParts.{TableParts}
use Rattle.mss_model.specs.BlockAtAge.{BlockView}
use Rattle.mss_model.specs.Sums.{sum_below}
use Rattle.mss_enclose.specs.Unit.{unit}
use Rattle.mss_enclose.specs.Kept.{rest_of}
use Rattle.mss_weights.specs.Steady.{steady_list}
use Rattle.mss_weights.specs.Powers.{power_up, powers_up, steps_down}
use Rattle.mss_weights.specs.declared.scales.TheConstants.{MOST_WEIGHT}

-- the mean of the powers of z over a kept list, whose rest is taken to lie at 0, in parts of the unit, rounded up
abbrev pub mean_up : ℕ → List ℕ → ℕ
mean_up z kept = (sum_below (length kept) (λ k. get_or kept k 0 * powers_up z k) + rest_of kept * unit + (unit - 1)) / unit

-- what a kept list weighs, where the mean is that of a power of the base
abbrev pub weight_of : ℕ → List ℕ → ℕ
weight_of power kept = steps_down MOST_WEIGHT unit (mean_up (power_up power) kept)

-- the weights of a block, one for each offset
abbrev pub weight_row : ℕ → ℕ → BlockView → List ℕ
weight_row power days b = map (λ o. weight_of power (steady_list days b o)) (range_with_len 0 days)

-- and those of all blocks
abbrev pub weight_table : ℕ → TableParts → List (List ℕ)
weight_table power t = map (weight_row power t.days) t.blocks
