use Rattle.std.proofs.Common.{arith, ◌+◌}
use Rattle.mss_model.specs.PartsOf.{parts_of}
use Rattle.mss_alike.specs.Alike.{suits}
use Rattle.mss_alike.proofs.SuitNumbers.{flag_small, number_fits}
use Rattle.mss_alike.proofs.rooms.suit_number.Goals as goal

pub overflow_mul-number : goal.overflow_mul-number
overflow_mul-number c =
    omega (arith, c.loop-place.invariant, number_fits c.loop-place.place (λ j. suits (parts_of c.args.tables.now) (j + 1) c.args.room) (omega arith))

pub overflow_add-number : goal.overflow_add-number
overflow_add-number c =
    omega (arith, c.loop-place.invariant, c.from.ensures, flag_small c.suits.result, number_fits c.loop-place.place (λ j. suits (parts_of c.args.tables.now) (j + 1) c.args.room) (omega arith))
