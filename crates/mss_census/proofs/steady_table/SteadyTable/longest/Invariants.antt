use Rattle.std.proofs.Common.{◌≤◌, length, take}
use Rattle.std.specs.List.{All}
use Rattle.mss_census.proofs.steady_table.SteadyTable.longest.Given as goal

abbrev pub invariant-loop-i : goal.invariant-loop-i
invariant-loop-i l = record {
  some : 1 ≤ l.longest;
  few : l.longest ≤ 65536;
  lists : All (All (λ list. length list ≤ l.longest)) (take l.i l.self.lists);
}
