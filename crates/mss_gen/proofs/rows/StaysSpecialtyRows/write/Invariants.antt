use Rattle.std.proofs.Common.{◌≡◌, ◌++◌, take}
use Rattle.mss_rows.specs.Written.{text_of}
use Rattle.mss_gen.proofs.RowsWritten.{ages_so_far}
use Rattle.mss_gen.proofs.rows.StaysSpecialtyRows.write.Given as goal

abbrev pub invariant-loop-age : goal.invariant-loop-age
invariant-loop-age l = l.text ≡ l.fn.text ++ text_of (ages_so_far l.number 0 (take l.age l.chances))
