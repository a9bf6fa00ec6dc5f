use Rattle.std.proofs.Common.{◌≡◌, ◌+◌}
use Rattle.mss_model.specs.PartsOf.{parts_of}
use Rattle.mss_alike.specs.Alike.{suits}
use Rattle.mss_alike.specs.SuitNumbers.{flag_number}
use Rattle.mss_alike.proofs.rooms.suit_number.Given as goal

abbrev pub invariant-loop-place : goal.invariant-loop-place
invariant-loop-place l = l.number ≡ flag_number l.place (λ j. suits (parts_of l.tables) (j + 1) l.room)
