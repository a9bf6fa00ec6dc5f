use Rattle.std.proofs.Common.{◌∙◌, sym}
use Rattle.mss_tables.specs.Rooms.{rooms_header}
use Rattle.mss_gen.specs.Rows.{rooms_rows}
use Rattle.mss_gen.proofs.RowsWritten.{room_step, text_one}
use Rattle.mss_gen.proofs.tables.rooms_text.Goals as goal

pub loop-room-init : goal.loop-room-init
unfolding rooms_rows
loop-room-init c = c.in_ok-push_row.ensures ∙ rw c.make-text.ensures (sym (text_one rooms_header))

pub loop-room-preserved : goal.loop-room-preserved
loop-room-preserved c = c.in_ok-write_room.ensures ∙ rw c.loop-room.invariant (sym (room_step rooms_header c.args.days c.loop-room.room))
