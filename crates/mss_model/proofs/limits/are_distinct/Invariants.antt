use Rattle.std.proofs.Common.{◌≢◌, ℕ, ◌<◌, get_or}
use Rattle.mss_model.proofs.limits.are_distinct.Given as goal

abbrev pub invariant-loop-j : goal.invariant-loop-j
invariant-loop-j l = (i j : ℕ) → i < j → j < l.j → get_or l.numbers i 0 ≢ get_or l.numbers j 0

abbrev pub invariant-loop-i : goal.invariant-loop-i
invariant-loop-i l = (i : ℕ) → i < l.i → get_or l.numbers i 0 ≢ get_or l.numbers l.j 0
