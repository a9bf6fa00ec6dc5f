-- Lists of prices that are written with at most nine digits each, and that aren't many.
use Rattle.std.specs.Prelude.{◌≤◌}
use Rattle.mss_lines.specs.Fields.{AreShort}
use Rattle.mss_weights.specs.declared.weights.Weights.{Weights}
use Rattle.mss_weights.specs.declared.weights.TheConstants.{MOST_PRICES}
use Rattle.mss_weights.specs.WeightsText.{price_count}

pub record HasShortLists (w : Weights) : Type 0 where
  pub places : AreShort w.places
  pub blocks : AreShort w.blocks
  pub slots : AreShort w.slots
  pub kinds : AreShort w.kinds
  pub few : price_count w ≤ MOST_PRICES
