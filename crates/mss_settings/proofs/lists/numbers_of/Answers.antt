-- An item that is no number is one among them.
use Rattle.std.proofs.Common.{sym}
use Rattle.mss_settings.proofs.ListFacts.{no-number}
use Rattle.mss_settings.proofs.lists.numbers_of.Goals as goal

pub returns-in_default-clause-found : goal.returns-in_default-clause-found
returns-in_default-clause-found c =
    sym (no-number c.args.low c.args.high c.args.items.now c.loop-item.item-index c.item-item.result c.loop-item-test.true c.item-item.is c.in_default.ensures.value)
