use Rattle.std.proofs.Common.{◌≡◌, ◌++◌}
use Rattle.mss_rows.specs.Written.{text_of}
use Rattle.mss_gen.specs.Rows.{room_rows}
use Rattle.mss_gen.proofs.tables.write_room.Given as goal

abbrev pub invariant-loop-day : goal.invariant-loop-day
invariant-loop-day l = l.text ≡ l.fn.text ++ text_of (room_rows l.room l.day)
