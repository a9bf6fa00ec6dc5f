use Rattle.std.proofs.Common.{◌≡◌, ◌≤◌, ◌+◌, ◌*◌, ◌^◌}
use Rattle.mss_model.specs.PartsOf.{parts_of}
use Rattle.mss_model.specs.Sums.{sum_below}
use Rattle.mss_weights.specs.Loads.{load_limit}
use Rattle.mss_weights.specs.Prices.{ward_places}
use Rattle.mss_weights.specs.WeightPrices.{prices_of}
use Rattle.mss_weights.proofs.sums.limits_cost.Given as goal

abbrev pub invariant-loop-ward : goal.invariant-loop-ward
invariant-loop-ward l = (l.total ≡ sum_below l.ward (λ w. ward_places (parts_of l.tables) (prices_of (parts_of l.tables) l.weights) (w + 1) * load_limit (parts_of l.tables) l.weights.power l.weights.reach l.beds (w + 1))) × (l.total ≤ (28 * 2 ^ 96) * l.ward)
