use Rattle.std.proofs.Common.{◌+◌, inl, inr, sym, ap, arith, ◌∙◌, get_or, set}
use Rattle.std.proofs.lemmas.Bool.{cases_eq}
use Rattle.std.proofs.lemmas.List.{get_or-set_same, get_or-set_other, length-set}
use Rattle.mss_model.specs.PartsOf.{parts_of}
use Rattle.mss_alike.specs.SuitNumbers.{suit_number}
use Rattle.mss_alike.proofs.rooms.suit_numbers.Goals as goal

pub loop-room-preserved : goal.loop-room-preserved
loop-room-preserved c =
    let numbers = c.loop-room.numbers in
    let here = c.from.result in (
      length-set numbers here c.suit_number.result ∙ c.loop-room.invariant.0,
      λ room l. elim (cases_eq room c.loop-room.room) [
        | inl same ↦ ap (λ r. get_or (set numbers here c.suit_number.result) r 0) (same ∙ sym c.from.ensures)
            ∙ get_or-set_same numbers here c.suit_number.result 0 (omega (arith, c.loop-room.invariant.0, c.loop-room-test.true, c.from.ensures, c.rooms-room-end.ensures.limits.1))
            ∙ c.suit_number.ensures ∙ ap (λ r. suit_number (parts_of c.args.tables.now) (r + 1)) (sym same)
        | inr other ↦ get_or-set_other numbers here room c.suit_number.result 0 (λ e. other (e ∙ c.from.ensures)) ∙ c.loop-room.invariant.1 room (omega arith)
      ],
    )
