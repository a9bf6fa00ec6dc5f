use Rattle.std.proofs.Common.{ℕ, ◌<◌, get_or, []}
use Rattle.mss_model.specs.Limits.{IsName}
use Rattle.mss_model.proofs.limits.are_named.Given as goal

abbrev pub invariant-loop-place : goal.invariant-loop-place
invariant-loop-place l = (i : ℕ) → i < l.place → IsName (get_or l.names i [])
