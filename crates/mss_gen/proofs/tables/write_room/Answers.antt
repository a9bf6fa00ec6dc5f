use Rattle.std.proofs.Common.{◌∙◌, ◌++◌, ℕ, List, ap, sym, append_assoc}
use Rattle.std.proofs.lemmas.List.{append-nil}
use Rattle.mss_gen.proofs.RowsWritten.{day_step, room_none}
use Rattle.mss_gen.proofs.tables.write_room.Goals as goal

pub loop-day-init : goal.loop-day-init
loop-day-init c = rw (room_none c.args.room) (sym (append-nil c.args.text.now))

pub loop-day-preserved : goal.loop-day-preserved
loop-day-preserved c =
    c.in_ok-write_day.ensures ∙ rw c.loop-day.invariant (append_assoc c.args.text.now _ _ ∙ ap (λ (t : List ℕ). c.args.text.now ++ t) (sym (day_step c.args.room c.loop-day.day)))
