use Rattle.std.proofs.Common.{◌≡◌, ℕ, ◌+◌, ◌<◌, ◌&&◌, false, nat_le}
use Rattle.mss_model.specs.Legality.{could_take}
use Rattle.mss_model.specs.PartsOf.{parts_of}
use Rattle.mss_floor.proofs.lowest.is_open.Given as goal

abbrev pub invariant-loop-room : goal.invariant-loop-room
invariant-loop-room l = (k : ℕ) → k < l.room → (nat_le l.from (l.first + k) && could_take (parts_of l.tables) (l.first + k) l.j) ≡ false
