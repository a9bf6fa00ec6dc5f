use Rattle.std.proofs.Common.{◌≡◌, length}
use Rattle.mss_lines.specs.Fields.{AreShort}
use Rattle.mss_weights.proofs.find.block_prices.Given as goal

abbrev pub invariant-loop-place : goal.invariant-loop-place
invariant-loop-place l = AreShort l.prices × (length l.prices ≡ l.place)
