use Rattle.std.proofs.Common.{◌≡◌, ℕ, ◌+◌, ◌<◌, get_or, length}
use Rattle.mss_model.specs.PartsOf.{parts_of}
use Rattle.mss_alike.specs.SuitNumbers.{suit_number}
use Rattle.mss_alike.proofs.rooms.suit_numbers.Given as goal

abbrev pub invariant-loop-room : goal.invariant-loop-room
invariant-loop-room l = (length l.numbers ≡ 16) × ((room : ℕ) → room < l.room → get_or l.numbers room 0 ≡ suit_number (parts_of l.tables) (room + 1))
