use Rattle.std.proofs.Common.{◌≤◌}
use Rattle.mss_weights.proofs.find.greatest.Given as goal

abbrev pub invariant-loop-halving : goal.invariant-loop-halving
invariant-loop-halving l = (l.low ≤ 16384) × (l.high ≤ 16384)
