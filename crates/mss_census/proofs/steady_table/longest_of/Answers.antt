use Rattle.std.proofs.Common.{◌≤◌, length, take, take_all, subst, arith}
use Rattle.std.specs.List.{All}
use Rattle.mss_enclose.specs.Words.{masses_list, mass_lists}
use Rattle.mss_census.proofs.LongestLists.{all-more, shorter}
use Rattle.mss_census.proofs.steady_table.longest_of.Goals as goal

pub loop-place-preserved : goal.loop-place-preserved
loop-place-preserved c =
    let lists = mass_lists c.args.lists.now in
    let most = c.max-longest.result in
    record {
      some = omega (arith, c.loop-place.invariant.some);
      few = omega (arith, c.loop-place.invariant.few, c.len.ensures.few);
      lists = all-more (λ l. length l ≤ most) lists c.loop-place.place (masses_list c.get.result.now)
          (shorter c.loop-place.longest most (take c.loop-place.place lists) (omega arith) c.loop-place.invariant.lists) c.get.ensures (omega (arith, c.len.ensures.value));
    }

pub returns-clause-lists : goal.returns-clause-lists
returns-clause-lists c =
    let lists = mass_lists c.args.lists.now in
    subst (All (λ l. length l ≤ c.loop-place.longest)) (take_all c.loop-place.place lists (omega arith)) c.loop-place.invariant.lists
