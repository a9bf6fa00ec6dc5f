use Rattle.std.proofs.Common.{◌≡◌, ◌∷◌}
use Rattle.mss_rows.specs.Written.{text_of}
use Rattle.mss_tables.specs.Rooms.{rooms_header}
use Rattle.mss_gen.specs.Rows.{rooms_rows}
use Rattle.mss_gen.proofs.tables.rooms_text.Given as goal

abbrev pub invariant-loop-room : goal.invariant-loop-room
invariant-loop-room l = l.text ≡ text_of (rooms_header ∷ rooms_rows l.room l.days)
