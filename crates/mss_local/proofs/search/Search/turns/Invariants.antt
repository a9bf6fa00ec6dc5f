use Rattle.std.proofs.Common.{◌≤◌}
use Rattle.mss_model.specs.PartsOf.{parts_of}
use Rattle.mss_local.specs.Standing.{IsSearch}
use Rattle.mss_local.proofs.search.Search.turns.Given as goal

abbrev pub invariant-loop-turn : goal.invariant-loop-turn
invariant-loop-turn g l = record {
  search : IsSearch (g.R.Rules.Member (parts_of l.tables)) (parts_of l.tables) l.self;
  at_most : l.self.peak.high ≤ l.fn.self.peak.high;
  few : l.accepted ≤ l._turn;
}
