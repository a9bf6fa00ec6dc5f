use Rattle.std.proofs.Common.{◌≡◌, ℕ, ◌<◌, get_or}
use Rattle.mss_model.specs.BlockAtAge.{no_block}
use Rattle.mss_model.proofs.limits.are_in_parts.Given as goal

abbrev pub invariant-loop-place : goal.invariant-loop-place
invariant-loop-place l = (i : ℕ) → i < l.place → (get_or l.blocks i no_block).parts ≡ l.parts
