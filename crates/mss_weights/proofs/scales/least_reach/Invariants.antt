use Rattle.std.proofs.Common.{◌≤◌}
use Rattle.mss_enclose.specs.Unit.{unit}
use Rattle.mss_weights.proofs.scales.least_reach.Given as goal

abbrev pub invariant-loop-power : goal.invariant-loop-power
invariant-loop-power l = l.value ≤ unit
