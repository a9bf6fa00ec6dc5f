-- Which cycles are legal, and which rule a prefix breaks.
--
-- A prefix is the list of options of the first slots. These slots are decided, and all further ones are not.
use Rattle.std.specs.Prelude.{◌≡◌, ℕ, zero, suc, ◌+◌, ◌-◌, ◌<◌, ◌≤◌, Bool, true, false, not, ◌&&◌, ◌||◌, ◌==◌, nat_lt, List, length, slice_index, Option, Some, None, if◌then◌else◌}
use Rattle.std.specs.List.{All}
use Rattle.mss_model.specs.declared.parts.TableParts.{TableParts}
use Rattle.mss_model.specs.Sums.{sum_below}
use Rattle.mss_model.specs.TableWords.{slot_count, specialty_count, option_count, kind_count, day_of, room_of, minutes_at, daily_at, low_at, high_at, units_at, need_at, is_unsuited, is_barred, fixed_at}

-- ---- what a prefix gives

-- the option of a decided slot
abbrev pub option_at : List ℕ → ℕ → ℕ
option_at options slot = slice_index options slot

-- the minutes of the blocks of specialty j
abbrev pub given_minutes : TableParts → List ℕ → ℕ → ℕ
given_minutes t options j = sum_below (length options) (λ slot. if option_at options slot == j then minutes_at t slot else 0)

-- how many blocks specialty j has on a day
abbrev pub blocks_on : TableParts → List ℕ → ℕ → ℕ → ℕ
blocks_on t options day j =
    sum_below (length options) (λ slot. if (day_of t slot == day) && (option_at options slot == j) then 1 else 0)

-- the units that a specialty's block takes of a kind of equipment; an idle slot takes none
abbrev pub taken_units : TableParts → ℕ → ℕ → ℕ
taken_units t zero kind = 0
taken_units t (suc j) kind = need_at t (suc j) kind

-- the units of a kind of equipment that the blocks of a day take
abbrev pub units_on : TableParts → List ℕ → ℕ → ℕ → ℕ
units_on t options day kind =
    sum_below (length options) (λ slot. if day_of t slot == day then taken_units t (option_at options slot) kind else 0)

-- whether a slot that is free, or fixed to an option, may have this one
abbrev pub allows : Option ℕ → ℕ → Bool
allows None option = true
allows (Some fixed) option = fixed == option

-- ---- legal cycles

-- A legal cycle decides every slot and keeps the rules on rooms, days, equipment, daily blocks and minutes.
pub record IsLegal (t : TableParts) (cycle : List ℕ) : Type 0 where
  pub whole : length cycle ≡ slot_count t
  pub known : All (λ option. option < option_count t) cycle
  pub closed : (slot : ℕ) → slot < length cycle → minutes_at t slot ≡ 0 → option_at cycle slot ≡ 0
  pub fixed : (slot : ℕ) → slot < length cycle → allows (fixed_at t slot) (option_at cycle slot) ≡ true
  pub suited : (slot : ℕ) → slot < length cycle → 0 < option_at cycle slot
      → is_unsuited t (option_at cycle slot) (room_of t slot) ≡ false
  pub not_barred : (slot : ℕ) → slot < length cycle → 0 < option_at cycle slot
      → is_barred t (option_at cycle slot) (day_of t slot) ≡ false
  pub equipped : (day kind : ℕ) → 0 < day → day ≤ t.days → 0 < kind → kind ≤ kind_count t
      → units_on t cycle day kind ≤ units_at t kind
  pub within_daily : (day j : ℕ) → 0 < day → day ≤ t.days → 0 < j → j ≤ specialty_count t
      → blocks_on t cycle day j ≤ daily_at t j
  pub within_high : (j : ℕ) → 0 < j → j ≤ specialty_count t → given_minutes t cycle j ≤ high_at t j
  pub enough : (j : ℕ) → 0 < j → j ≤ specialty_count t → low_at t j ≤ given_minutes t cycle j

-- ---- the rules that a prefix breaks

-- whether some number below n passes
abbrev pub some_below : ℕ → (ℕ → Bool) → Bool
some_below zero test = false
some_below (suc n) test = some_below n test || test n

-- Rule 1: a decided slot of no minutes isn't idle, or a decided slot has another option than the one it is fixed to.
abbrev pub breaks_closed_or_fixed : TableParts → List ℕ → Bool
breaks_closed_or_fixed t prefix = some_below (length prefix) (λ slot.
    ((minutes_at t slot == 0) && not (option_at prefix slot == 0)) || not (allows (fixed_at t slot) (option_at prefix slot)))

-- Rule 2: a decided slot has a specialty for which its room is unsuited.
abbrev pub breaks_suited : TableParts → List ℕ → Bool
breaks_suited t prefix = some_below (length prefix) (λ slot.
    nat_lt 0 (option_at prefix slot) && is_unsuited t (option_at prefix slot) (room_of t slot))

-- Rule 3: a decided slot has a specialty that is barred on its day.
abbrev pub breaks_barred : TableParts → List ℕ → Bool
breaks_barred t prefix = some_below (length prefix) (λ slot.
    nat_lt 0 (option_at prefix slot) && is_barred t (option_at prefix slot) (day_of t slot))

-- Rule 4: the blocks of one day take more units of a kind of equipment than there are.
abbrev pub breaks_equipment : TableParts → List ℕ → Bool
breaks_equipment t prefix = some_below t.days (λ d. some_below (kind_count t) (λ k.
    nat_lt (units_at t (k + 1)) (units_on t prefix (d + 1) (k + 1))))

-- Rule 5: a specialty has more blocks on one day than its daily number.
abbrev pub breaks_daily : TableParts → List ℕ → Bool
breaks_daily t prefix = some_below t.days (λ d. some_below (specialty_count t) (λ j.
    nat_lt (daily_at t (j + 1)) (blocks_on t prefix (d + 1) (j + 1))))

-- Rule 6: a specialty has more than its high minutes.
abbrev pub breaks_high : TableParts → List ℕ → Bool
breaks_high t prefix = some_below (specialty_count t) (λ j. nat_lt (high_at t (j + 1)) (given_minutes t prefix (j + 1)))

-- whether specialty j could take a slot: by its room, its day, and the option it is fixed to
abbrev pub could_take : TableParts → ℕ → ℕ → Bool
could_take t slot j = not (is_unsuited t j (room_of t slot)) && not (is_barred t j (day_of t slot)) && allows (fixed_at t slot) j

-- the sum of f over the slots that aren't decided
abbrev pub sum_undecided : TableParts → List ℕ → (ℕ → ℕ) → ℕ
sum_undecided t prefix f = sum_below (slot_count t - length prefix) (λ k. f (length prefix + k))

-- Rule 7: a specialty has too few minutes even with all undecided slots that it could take.
abbrev pub breaks_low : TableParts → List ℕ → Bool
breaks_low t prefix = some_below (specialty_count t) (λ j.
    nat_lt (given_minutes t prefix (j + 1) + sum_undecided t prefix (λ slot. if could_take t slot (j + 1) then minutes_at t slot else 0))
    (low_at t (j + 1)))

-- Rule 8: the low minutes that all specialties still miss are more than the minutes of all undecided slots.
abbrev pub breaks_total : TableParts → List ℕ → Bool
breaks_total t prefix =
    nat_lt (sum_undecided t prefix (minutes_at t)) (sum_below (specialty_count t) (λ j. low_at t (j + 1) - given_minutes t prefix (j + 1)))

-- The least rule that a prefix breaks. A prefix that breaks one has no legal cycle among its completions, and is dead.
abbrev pub broken_rule : TableParts → List ℕ → Option ℕ
broken_rule t prefix =
    if breaks_closed_or_fixed t prefix then Some 1
    else if breaks_suited t prefix then Some 2
    else if breaks_barred t prefix then Some 3
    else if breaks_equipment t prefix then Some 4
    else if breaks_daily t prefix then Some 5
    else if breaks_high t prefix then Some 6
    else if breaks_low t prefix then Some 7
    else if breaks_total t prefix then Some 8
    else None
