use Rattle.std.proofs.Common.{arith, ◌-◌, ◌&&◌, ◌∙◌, nat_lt, sym}
use Rattle.mss_model.specs.Legality.{option_at}
use Rattle.mss_model.specs.PartsOf.{parts_of}
use Rattle.mss_alike.specs.Alike.{is_alike}
use Rattle.mss_alike.proofs.Loops.{some_at}
use Rattle.mss_alike.proofs.SameDay.{none_falls}
use Rattle.mss_alike.proofs.order.falls.Goals as goal

pub loop-earlier-init : goal.loop-earlier-init
loop-earlier-init c = none_falls (parts_of c.args.tables.now) c.args.prefix.now (c.args.later - c.args.room) c.args.later
    c.args.tables.now.good.slots.rooms.count.0 (omega (arith, c.requires.room))

pub returns-then-is_falling : goal.returns-then-is_falling
returns-then-is_falling c = some_at c.args.later c.loop-earlier.earlier
    (λ earlier. nat_lt (option_at c.args.prefix.now c.args.later) (option_at c.args.prefix.now earlier) && is_alike (parts_of c.args.tables.now) earlier c.args.later)
    (omega arith) (sym c.is_falling.ensures ∙ c.if-is_falling.true)
