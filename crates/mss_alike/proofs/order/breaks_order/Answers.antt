use Rattle.std.proofs.Common.{sym, length, ◌∙◌}
use Rattle.mss_model.specs.PartsOf.{parts_of}
use Rattle.mss_alike.specs.Alike.{falls}
use Rattle.mss_alike.proofs.Loops.{some_at}
use Rattle.mss_alike.proofs.order.breaks_order.Goals as goal

pub returns-then-falls : goal.returns-then-falls
returns-then-falls c = some_at (length c.args.prefix.now) c.loop-later.later (falls (parts_of c.args.tables.now) c.args.prefix.now) c.loop-later-test.true (sym c.falls.ensures ∙ c.if-falls.true)
