use Rattle.std.proofs.Common.{◌+◌, ◌++◌, ap, subst, arith, length}
use Rattle.mss_model.specs.Occurrences.{offset}
use Rattle.mss_model.specs.PartsOf.{parts_of}
use Rattle.mss_model.specs.TableWords.{block_of}
use Rattle.mss_enclose.specs.Words.{masses_list}
use Rattle.mss_floor.specs.LowestSums.{AreSums}
use Rattle.mss_census.specs.TableBlocksLaws.{block-good}
use Rattle.mss_floor.specs.KnownListsLaws.{steady-short}
use Rattle.mss_floor.proofs.LowestLists.{choice-is}
use Rattle.mss_floor.proofs.lowest.take_day.Goals as goal

pub lower-requires : goal.lower-requires
lower-requires c =
    let t = parts_of c.args.tables.now in
    omega (
      arith,
      ap length c.list_from.ensures,
      steady-short t.days (offset t.days c.args.day (c.args.place + 1)) (block_of t c.args.j) (block-good t c.args.j c.args.tables.now.good),
      c.requires.room,
    )

pub returns-clause-sums : goal.returns-clause-sums
returns-clause-sums c = λ chosen full s.
    let t = parts_of c.args.tables.now in
    subst (λ l. AreSums (chosen ++ l) c.lower.new.sums c.lower.result)
    (choice-is t c.args.j c.args.day (c.args.place + 1) c.args.counts (masses_list c.list_from.result.now) c.if-not-counts.false c.list_from.ensures)
    (c.lower.ensures.sums chosen full s)
