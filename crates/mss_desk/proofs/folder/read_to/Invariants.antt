use Rattle.std.proofs.Common.{◌≤◌, length}
use Rattle.mss_desk.proofs.folder.read_to.Given as goal

abbrev pub invariant-loop : goal.invariant-loop
invariant-loop g l = length l.out.items ≤ l.limit
