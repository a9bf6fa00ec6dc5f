use Rattle.std.proofs.Common.{◌≡◌, ◌%◌, ◌<◌, false}
use Rattle.mss_model.specs.Legality.{some_below}
use Rattle.mss_model.specs.PartsOf.{parts_of}
use Rattle.mss_model.specs.TableWords.{room_count}
use Rattle.mss_alike.specs.Alike.{falls}
use Rattle.mss_alike.proofs.order.breaks_order.Given as goal

abbrev pub invariant-loop-later : goal.invariant-loop-later
invariant-loop-later l = (false ≡ some_below l.later (falls (parts_of l.tables) l.prefix)) × (l.later % room_count (parts_of l.tables) ≡ l.room)
    × (l.room < room_count (parts_of l.tables))
