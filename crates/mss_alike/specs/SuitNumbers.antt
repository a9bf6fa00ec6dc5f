-- Sets of specialties as numbers, so that two rooms are compared at once.
use Rattle.std.specs.Prelude.{◌≡◌, ℕ, zero, suc, ◌+◌, ◌*◌, ◌<◌, Bool, List, get_or, if◌then◌else◌}
use Rattle.mss_model.specs.declared.parts.TableParts.{TableParts}
use Rattle.mss_model.specs.TableWords.{room_count, specialty_count}
use Rattle.mss_alike.specs.Alike.{suits}

-- the flags of the numbers below n, read as binary digits
abbrev pub flag_number : ℕ → (ℕ → Bool) → ℕ
flag_number zero flag = 0
flag_number (suc n) flag = flag_number n flag * 2 + (if flag n then 1 else 0)

-- the number of the specialties that a room suits
abbrev pub suit_number : TableParts → ℕ → ℕ
suit_number t room = flag_number (specialty_count t) (λ j. suits t (j + 1) room)

-- each room's number, from room 0 on
abbrev pub AreSuitNumbers : TableParts → List ℕ → Type 0
AreSuitNumbers t numbers = (room : ℕ) → room < room_count t → get_or numbers room 0 ≡ suit_number t (room + 1)
