use Rattle.std.proofs.Common.{◌≡◌, ◌++◌, map, take}
use Rattle.mss_rows.specs.Written.{text_of}
use Rattle.mss_gen.specs.Rows.{unsuited_row}
use Rattle.mss_gen.proofs.rows.UnsuitedSpecialtyRows.write.Given as goal

abbrev pub invariant-loop-place : goal.invariant-loop-place
invariant-loop-place l = l.text ≡ l.fn.text ++ text_of (map (unsuited_row l.number) (take l.place l.rooms))
