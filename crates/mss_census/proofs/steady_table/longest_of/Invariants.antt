use Rattle.std.proofs.Common.{◌≤◌, length, take}
use Rattle.std.specs.List.{All}
use Rattle.mss_enclose.specs.Words.{mass_lists}
use Rattle.mss_census.proofs.steady_table.longest_of.Given as goal

abbrev pub invariant-loop-place : goal.invariant-loop-place
invariant-loop-place l = record {
  some : 1 ≤ l.longest;
  few : l.longest ≤ 65536;
  lists : All (λ list. length list ≤ l.longest) (take l.place (mass_lists l.lists));
}
