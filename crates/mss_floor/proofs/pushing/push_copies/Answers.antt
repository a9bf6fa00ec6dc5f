use Rattle.std.proofs.Common.{◌++◌, length, replicate, ◌∙◌, arith}
use Rattle.mss_enclose.specs.Kept.{joined_all}
use Rattle.mss_enclose.specs.Words.{masses_list}
use Rattle.mss_floor.specs.FlooredLists.{fitting}
use Rattle.mss_floor.proofs.OneFloor.{one-copy, copies-end}
use Rattle.mss_floor.proofs.pushing.push_copies.Goals as goal

pub loop-i-preserved : goal.loop-i-preserved
loop-i-preserved g c =
    let E = g.E.Enclosure in (
      one-copy (λ fs. joined_all E.joined (E.items c.args.value.now) (fitting c.args.left (length (E.items c.args.value.now)) (replicate c.args.blocks (masses_list c.args.floor.now) ++ fs)))
          E.joined (E.items c.loop-i.value) (E.items c.push_one-left.new.value) (masses_list c.args.floor.now) c.loop-i.left c.push_one-left.result c.args.blocks c.loop-i._i
          (omega (arith, c.loop-i-test.true, c.min-i-end.ensures)) c.loop-i.invariant.0 c.push_one-left.ensures.pushed,
      c.push_one-left.ensures.room,
      c.push_one-left.ensures.scratch,
      omega (arith, c.loop-i.invariant.3, c.push_one-left.ensures.count),
      omega (arith, c.loop-i.invariant.4, c.push_one-left.ensures.fewer),
    )

pub returns-clause-pushed : goal.returns-clause-pushed
returns-clause-pushed g c = λ fs.
    let E = g.E.Enclosure in
    c.loop-i.invariant.0 fs
    ∙ copies-end E.joined (E.items c.loop-i.value) (masses_list c.args.floor.now) c.loop-i.left c.args.left c.args.blocks c.loop-i._i fs
    (omega (arith, c.loop-i-test.false, c.min-i-end.ensures)) c.loop-i.invariant.4
