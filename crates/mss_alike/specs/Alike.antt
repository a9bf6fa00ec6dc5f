-- Slots that no rule tells apart, and the cycles that give them their options in rising order.
use Rattle.std.specs.Prelude.{◌≡◌, ℕ, ◌+◌, ◌<◌, ◌≤◌, Bool, not, ◌&&◌, ◌==◌, nat_eq, nat_lt, List, length, Option, Some, None, if◌then◌else◌}
use Rattle.std.specs.Bool.{beq}
use Rattle.std.specs.Option.{option_eq, option_or}
use Rattle.mss_model.specs.declared.parts.TableParts.{TableParts}
use Rattle.mss_model.specs.Census.{census}
use Rattle.mss_model.specs.Legality.{IsLegal, broken_rule, option_at, some_below}
use Rattle.mss_model.specs.Peak.{peak}
use Rattle.mss_model.specs.Sums.{sum_below}
use Rattle.mss_model.specs.TableWords.{day_of, fixed_at, is_unsuited, minutes_at, room_of, specialty_count}

-- whether a room suits specialty j
abbrev pub suits : TableParts → ℕ → ℕ → Bool
suits t j room = not (is_unsuited t j room)

-- Two slots are alike where they are of one day and have the same minutes, the same fixed option or none, and rooms
-- that suit the same specialties.
pub record AreAlike (t : TableParts) (slot other : ℕ) : Type 0 where
  pub day : day_of t slot ≡ day_of t other
  pub minutes : minutes_at t slot ≡ minutes_at t other
  pub fixed : fixed_at t slot ≡ fixed_at t other
  pub suited : (j : ℕ) → 0 < j → j ≤ specialty_count t → suits t j (room_of t slot) ≡ suits t j (room_of t other)

-- whether a specialty suits one of two rooms alone
abbrev pub suit_apart : TableParts → ℕ → ℕ → Bool
suit_apart t room other =
    some_below (specialty_count t) (λ j. not (beq (suits t (j + 1) room) (suits t (j + 1) other)))

-- whether two slots are alike
abbrev pub is_alike : TableParts → ℕ → ℕ → Bool
is_alike t slot other =
    (day_of t slot == day_of t other) && (minutes_at t slot == minutes_at t other)
    && option_eq nat_eq (fixed_at t slot) (fixed_at t other) && not (suit_apart t (room_of t slot) (room_of t other))

-- whether a slot has a lesser option than an earlier one that is alike
abbrev pub falls : TableParts → List ℕ → ℕ → Bool
falls t prefix later =
    some_below later (λ earlier. nat_lt (option_at prefix later) (option_at prefix earlier) && is_alike t earlier later)

-- Rule 9: of two decided slots that are alike, the earlier one has the greater option.
abbrev pub breaks_order : TableParts → List ℕ → Bool
breaks_order t prefix = some_below (length prefix) (falls t prefix)

-- the least of the nine rules that a prefix breaks
abbrev pub canonical_rule : TableParts → List ℕ → Option ℕ
canonical_rule t prefix = option_or (broken_rule t prefix) (if breaks_order t prefix then Some 9 else None)

-- A canonical cycle is legal, and gives the slots that are alike their options in rising order.
pub record IsCanonical (t : TableParts) (cycle : List ℕ) : Type 0 where
  pub legal : IsLegal t cycle
  pub rising : (earlier later : ℕ) → earlier < later → later < length cycle → AreAlike t earlier later
      → option_at cycle earlier ≤ option_at cycle later

-- ---- what two cycles have in common

-- how many of the slots that are alike to a slot have an option
abbrev pub alike_count : TableParts → List ℕ → ℕ → ℕ → ℕ
alike_count t options slot option =
    sum_below (length options) (λ other. if is_alike t slot other && (option_at options other == option) then 1 else 0)

-- each class of slots that are alike has the same options, each as often
abbrev pub HaveSameOptions : TableParts → List ℕ → List ℕ → Type 0
HaveSameOptions t cycle other = (slot option : ℕ) → alike_count t other slot option ≡ alike_count t cycle slot option

-- the exact census is the same on every ward and day
abbrev pub HaveSameCensus : TableParts → List ℕ → List ℕ → Type 0
HaveSameCensus t cycle other = (ward day : ℕ) → census t ward day other ≡ census t ward day cycle

-- the peak is the same at every level a / b
abbrev pub HaveSamePeaks : TableParts → List ℕ → List ℕ → Type 0
HaveSamePeaks t cycle other = (a b : ℕ) → peak t other a b ≡ peak t cycle a b
