use Rattle.std.proofs.Common.{◌≡◌, ℕ, ◌≤◌, slice_index}
use Rattle.mss_model.specs.PartsOf.{parts_of}
use Rattle.mss_floor.specs.ForcedBlocks.{forced}
use Rattle.mss_floor.proofs.forcing.forced_counts.Given as goal

abbrev pub invariant-loop-j : goal.invariant-loop-j
invariant-loop-j l = (i : ℕ) → 1 ≤ i → i ≤ l.j → slice_index l.blocks i ≡ forced (parts_of l.tables) l.prefix i
