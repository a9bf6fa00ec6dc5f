use Rattle.std.proofs.Common.{◌≡◌}
use Rattle.mss_tables.specs.Allowances.{allow_of}
use Rattle.mss_tables.proofs.allow.allow_of.Given as goal

abbrev pub invariant-loop-place : goal.invariant-loop-place
invariant-loop-place l = l.numbers ≡ allow_of l.watch l.allow l.place
