-- Rooms compared by the numbers of the specialties that they suit.
use Rattle.std.proofs.Common.{◌≡◌, ℕ, zero, suc, ◌+◌, ◌-◌, ◌*◌, ◌/◌, ◌%◌, ◌^◌, ◌<◌, ◌≤◌, ◌==◌, nat_eq, ◌&&◌, ◌||◌, not, Bool, true, false, List, get_or, refl, sym, ap, ap₂, arith, add-one, ◌∙◌}
use Rattle.std.specs.Prelude.{if◌then◌else◌}
use Rattle.std.specs.Bool.{beq}
use Rattle.std.specs.Option.{option_eq}
use Rattle.std.proofs.lemmas.Bool.{eq-eqb, eqb-true, ne_eqb, true≢false}
use Rattle.std.proofs.lemmas.Grind.{pow_more}
use Rattle.std.proofs.lemmas.Nat.{mod-mul-add}
use Rattle.std.proofs.Math.Nat.{div-add-mod', pow-le-pow_right}
use mir.Val.{bool_byte}
use Rattle.mss_model.specs.declared.parts.TableParts.{TableParts}
use Rattle.mss_model.specs.Legality.{some_below}
use Rattle.mss_model.specs.TableWords.{day_of, fixed_at, minutes_at, room_count, room_of, specialty_count}
use Rattle.mss_model.proofs.RangeParts.{quotient}
use Rattle.mss_alike.specs.Alike.{is_alike, suit_apart, suits}
use Rattle.mss_alike.specs.SuitNumbers.{AreSuitNumbers, flag_number, suit_number}

-- ---- the numbers tell the flags

same_digit : (x y i : ℕ) (distinct : Bool) → (x == y) ≡ not distinct → (x * 2 + i == y * 2 + i) ≡ not distinct
same_digit x y i true e = ne_eqb (x * 2 + i) (y * 2 + i) (λ h. true≢false (sym (eq-eqb x y (omega (arith, h))) ∙ e))
same_digit x y i false e = eq-eqb (x * 2 + i) (y * 2 + i) (ap (λ z. z * 2 + i) (eqb-true x y e))

one_digit : (x y : ℕ) (distinct a b : Bool) → (x == y) ≡ not distinct
    → (x * 2 + (if a then 1 else 0) == y * 2 + (if b then 1 else 0)) ≡ not (distinct || not (beq a b))
one_digit x y true true true e = same_digit x y 1 true e
one_digit x y true false false e = same_digit x y 0 true e
one_digit x y true true false e = ne_eqb (x * 2 + 1) (y * 2 + 0) (λ h. omega (arith, h))
one_digit x y true false true e = ne_eqb (x * 2 + 0) (y * 2 + 1) (λ h. omega (arith, h))
one_digit x y false true true e = same_digit x y 1 false e
one_digit x y false false false e = same_digit x y 0 false e
one_digit x y false true false e = ne_eqb (x * 2 + 1) (y * 2 + 0) (λ h. omega (arith, h))
one_digit x y false false true e = ne_eqb (x * 2 + 0) (y * 2 + 1) (λ h. omega (arith, h))

number_tells : (n : ℕ) (f g : ℕ → Bool) → (flag_number n f == flag_number n g) ≡ not (some_below n (λ j. not (beq (f j) (g j))))
number_tells zero f g = refl
number_tells (suc n) f g =
    one_digit (flag_number n f) (flag_number n g) (some_below n (λ j. not (beq (f j) (g j)))) (f n) (g n) (number_tells n f g)

-- two rooms have one number where they suit the same specialties
pub same_suits : (t : TableParts) (room other : ℕ) → (suit_number t room == suit_number t other) ≡ not (suit_apart t room other)
same_suits t room other = number_tells (specialty_count t) (λ j. suits t (j + 1) room) (λ j. suits t (j + 1) other)

-- ---- the numbers are small

one_more : (x p : ℕ) (flag : Bool) → x < p → x * 2 + (if flag then 1 else 0) < p * 2
one_more x p true l = omega arith
one_more x p false l = omega arith

below_power : (n : ℕ) (f : ℕ → Bool) → flag_number n f < 2 ^ n
below_power zero f = omega arith
below_power (suc n) f = rw (← add-one n, pow_more 2 n) (one_more (flag_number n f) (2 ^ n) (f n) (below_power n f))

pub number_fits : (n : ℕ) (f : ℕ → Bool) → n ≤ 24 → flag_number n f < 16777216
number_fits n f l =
    let power : 2 ^ n ≤ 2 ^ 24 = pow-le-pow_right {n = 2} (omega arith) {i = n} {j = 24} l in
    omega (arith, power, below_power n f)

-- a flag as the code has it
pub flag_small : (flag : Bool) → bool_byte flag ≤ 1
flag_small true = omega arith
flag_small false = omega arith

-- ---- slots of one day

-- a slot of a later slot's day: the day, and the rooms of both
on_day : (t : TableParts) (earlier later place : ℕ) → earlier < later → later ≤ earlier + place → later % room_count t ≡ place → place < room_count t
    → (day_of t earlier ≡ day_of t later) × (room_of t earlier ≡ earlier + place - later + 1) × (room_of t later ≡ place + 1)
on_day t earlier later place before day is within =
    let rooms = room_count t in
    let whole : later / rooms * rooms + later % rooms ≡ later = div-add-mod' later rooms in
    let here = earlier + place - later in
    let slot : earlier ≡ later / rooms * rooms + here = omega arith in (
      ap (λ s. s / rooms + 1) slot ∙ ap (λ q. q + 1) (quotient (later / rooms) rooms here (omega arith)),
      ap (λ s. s % rooms + 1) slot ∙ ap (λ r. r + 1) (mod-mul-add (later / rooms) rooms here (omega arith)),
      ap (λ r. r + 1) is,
    )

-- the parts of a pair that falls, in the order in which they are asked
in_order : (less day minutes fixed suits : Bool) → day ≡ true → (less && (day && minutes && fixed && suits)) ≡ (minutes && (less && (suits && fixed)))
in_order less false m f s e = absurd (true≢false (sym e))
in_order false true true f s e = refl
in_order false true false f s e = refl
in_order true true false f s e = refl
in_order true true true true true e = refl
in_order true true true true false e = refl
in_order true true true false true e = refl
in_order true true true false false e = refl

-- a pair of slots of one day falls where both have the same minutes, the later one has the lesser option, their rooms have
-- one number, and they the same fixed option
falling_by_numbers : (t : TableParts) (slot other : ℕ) (less : Bool) → day_of t slot ≡ day_of t other
    → (less && is_alike t slot other) ≡ ((minutes_at t slot == minutes_at t other)
    && (less && ((suit_number t (room_of t slot) == suit_number t (room_of t other)) && option_eq nat_eq (fixed_at t slot) (fixed_at t other))))
falling_by_numbers t slot other less e =
    rw (same_suits t (room_of t slot) (room_of t other))
    (in_order less (day_of t slot == day_of t other) (minutes_at t slot == minutes_at t other) (option_eq nat_eq (fixed_at t slot) (fixed_at t other))
    (not (suit_apart t (room_of t slot) (room_of t other))) (eq-eqb (day_of t slot) (day_of t other) e))

-- the same by a list of the rooms' numbers
pub falling_by_list : (t : TableParts) (numbers : List ℕ) (earlier later place : ℕ) (less : Bool) → AreSuitNumbers t numbers
    → earlier < later → later ≤ earlier + place → later % room_count t ≡ place → place < room_count t
    → (less && is_alike t earlier later) ≡ ((minutes_at t earlier == minutes_at t later)
    && (less && ((get_or numbers (earlier + place - later) 0 == get_or numbers place 0) && option_eq nat_eq (fixed_at t earlier) (fixed_at t later))))
falling_by_list t numbers earlier later place less are before day is within =
    let both = on_day t earlier later place before day is within in
    falling_by_numbers t earlier later less both.0
    ∙ ap₂ (λ x y. (minutes_at t earlier == minutes_at t later) && (less && ((x == y) && option_eq nat_eq (fixed_at t earlier) (fixed_at t later))))
    (ap (suit_number t) both.1 ∙ sym (are (earlier + place - later) (omega arith))) (ap (suit_number t) both.2 ∙ sym (are place within))
