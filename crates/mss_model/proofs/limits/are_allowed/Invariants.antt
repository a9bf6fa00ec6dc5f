use Rattle.std.proofs.Common.{◌≡◌, ℕ, ◌+◌, ◌<◌, get_or, false}
use Rattle.mss_model.specs.TableWords.{is_watched}
use Rattle.mss_model.proofs.limits.are_allowed.Given as goal

abbrev pub invariant-loop-place : goal.invariant-loop-place
invariant-loop-place l = (i : ℕ) → i < l.place → is_watched l.parts (i + 1) ≡ false → get_or l.parts.allow i 0 ≡ 0
