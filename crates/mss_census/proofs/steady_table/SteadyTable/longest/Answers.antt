use Rattle.std.proofs.Common.{◌≤◌, ◌+◌, length, take, take_all, subst, sym, ap, arith}
use Rattle.std.specs.List.{All}
use Rattle.std.proofs.lemmas.List.{length-map}
use Rattle.mss_enclose.specs.Words.{mass_lists}
use Rattle.mss_census.proofs.LongestLists.{all-shown, shorter, shorter-lists}
use Rattle.mss_census.proofs.steady_table.SteadyTable.longest.Goals as goal

pub loop-i-preserved : goal.loop-i-preserved
loop-i-preserved c =
    let items = c.self.inside.lists.items in
    let i = c.loop-i.i in
    let most = c.max-longest.result in
    let seen = ap (λ w. w.lists) c.self.view_is in
    record {
      some = omega (arith, c.loop-i.invariant.some);
      few = omega (arith, c.loop-i.invariant.few, c.longest_of.ensures.few);
      lists = subst (λ ls. All (All (λ list. length list ≤ most)) (take (i + 1) ls)) seen
          (all-shown (All (λ list. length list ≤ most)) mass_lists items c.len-i-end.result i c.index.result.now
          (subst (λ ls. All (All (λ list. length list ≤ most)) (take i ls)) (sym seen)
          (shorter-lists c.loop-i.longest most (take i c.args.self.now.lists) (omega arith) c.loop-i.invariant.lists))
          (omega (arith, c.len-i-end.ensures, c.self.inside.lists.ok.0)) (omega arith) c.index.ensures
          (shorter c.longest_of.result most (mass_lists c.index.result.now) (omega arith) c.longest_of.ensures.lists));
    }

pub returns-clause-lists : goal.returns-clause-lists
returns-clause-lists c =
    let lists = c.args.self.now.lists in
    let long = ap (λ w. length w.lists) c.self.view_is in
    subst (All (All (λ list. length list ≤ c.loop-i.longest))) (take_all c.loop-i.i lists (omega (arith, long, length-map c.self.inside.lists.items mass_lists, c.len-i-end.ensures, c.self.inside.lists.ok.0)))
    c.loop-i.invariant.lists
