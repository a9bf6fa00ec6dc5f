use Rattle.std.proofs.Common.{sym, arith}
use Rattle.mss_model.specs.PartsOf.{parts_of}
use Rattle.mss_floor.specs.ForcedFloorsLaws.{nobody-floor}
use Rattle.mss_floor.proofs.lowest.adds_none.Goals as goal

pub returns-then-adds_none_from : goal.returns-then-adds_none_from
returns-then-adds_none_from c = λ told.
    nobody-floor (parts_of c.args.tables.now) c.args.prefix.now c.args.j c.args.day c.loop-place.place c.args.tables.now.good
    (omega (arith, c.loop-place-test.true, c.days-place-end.ensures.value))
    (sym (c.adds_none_from.ensures.could c.if-adds_none_from.true)) (c.adds_none_from.ensures.short c.if-adds_none_from.true)
