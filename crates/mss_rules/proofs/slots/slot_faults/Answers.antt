use Rattle.std.proofs.Common.{◌≡◌, ◌∙◌, ap, arith, length}
use Rattle.mss_model.specs.Legality.{option_at, some_below}
use Rattle.mss_model.specs.PartsOf.{parts_of}
use Rattle.mss_rules.specs.SlotTests.{is_barred_at}
use Rattle.mss_rules.proofs.slots.slot_faults.Goals as goal

pub returns-clause-barred : goal.returns-clause-barred
returns-clause-barred c =
    let whole : c.loop-slot.slot ≡ length c.args.prefix.now = omega (arith, c.loop-slot-test.false, c.loop-slot.auto.slot-end) in
    c.loop-slot.invariant.barred ∙ ap (λ n. some_below n (λ slot. is_barred_at (parts_of c.args.tables.now) (option_at c.args.prefix.now slot) slot)) whole
