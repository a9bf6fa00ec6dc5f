-- Whether a specialty could take a slot of a day, of those from one on.
use Rattle.std.proofs.Common.{◌≡◌, ℕ, ◌+◌, ◌*◌, ◌-◌, ◌/◌, ◌%◌, ◌<◌, ◌≤◌, ◌==◌, ◌&&◌, Bool, true, false, nat_le, refl, sym, ap, subst, ◌∙◌, arith, inl, inr, eq-eqb, le-leb, leb-true, mul-le-mul_right}
use Rattle.std.proofs.Math.Nat.{mod-lt, div-add-mod'}
use Rattle.std.proofs.lemmas.Bool.{cases_eq, ne_eqb, and_from, and_left, and_right}
use Rattle.mss_model.specs.declared.parts.TableParts.{TableParts}
use Rattle.mss_model.specs.Limits.{IsTables}
use Rattle.mss_model.specs.TableWords.{room_count, slot_count, day_of}
use Rattle.mss_model.specs.Legality.{could_take, some_below}
use Rattle.mss_model.proofs.RangeParts.{quotient}
use Rattle.mss_rules.specs.RuleLaws.{none_below}
use Rattle.mss_floor.specs.ForcedFloorsLaws.{some-passes}

-- each room has a slot on each day
pub slot-inside : (days rooms day room : ℕ) → day < days → room < rooms → day * rooms + room < days * rooms
slot-inside days rooms day room d r =
    let rows : (day + 1) * rooms ≤ days * rooms = mul-le-mul_right rooms (let s : day + 1 ≤ days = omega (arith, d) in s) in
    omega (arith, rows, r)

both : (a b : Bool) → a && b ≡ true → (a ≡ true) × (b ≡ true)
both true true h = (refl, refl)
both true false h = absurd (cc)
both false b h = absurd (cc)

-- a slot of the day could be taken
pub open-found : (t : TableParts) (from j day room : ℕ) → room < room_count t → day < t.days
    → (nat_le from (day * room_count t + room) && could_take t (day * room_count t + room) j) ≡ true
    → true ≡ some_below (slot_count t - from) (λ k. (day_of t (from + k) == day + 1) && could_take t (from + k) j)
open-found t from j day room r d h =
    let slot : ℕ = day * room_count t + room in
    let parts = both (nat_le from (day * room_count t + room)) (could_take t (day * room_count t + room) j) h in
    let behind : from ≤ day * room_count t + room = leb-true _ _ parts.0 in
    let e : from + (day * room_count t + room - from) ≡ day * room_count t + room = omega (arith, behind) in
    let here : day_of t (day * room_count t + room) ≡ day + 1 = ap (λ q. q + 1) (quotient day (room_count t) room r) in
    sym (some-passes (slot_count t - from) (λ k. (day_of t (from + k) == day + 1) && could_take t (from + k) j) (day * room_count t + room - from)
    (omega (arith, behind, slot-inside t.days (room_count t) day room d r))
    (and_from _ _ (eq-eqb _ _ (ap (day_of t) e ∙ here)) (subst (λ s. could_take t s j ≡ true) (sym e) parts.1)))

-- no slot of the day could be taken
pub none-open : (t : TableParts) (from j day : ℕ) → IsTables t
    → ((k : ℕ) → k < room_count t → (nat_le from (day * room_count t + k) && could_take t (day * room_count t + k) j) ≡ false)
    → false ≡ some_below (slot_count t - from) (λ k. (day_of t (from + k) == day + 1) && could_take t (from + k) j)
none-open t from j day good h =
    sym (none_below (slot_count t - from) (λ k. (day_of t (from + k) == day + 1) && could_take t (from + k) j) (λ k l. elim (cases_eq (day_of t (from + k)) (day + 1)) [
      | inl same ↦ and_right (day_of t (from + k) == day + 1) (could_take t (from + k) j) (closed k same)
      | inr other ↦ and_left (day_of t (from + k) == day + 1) (could_take t (from + k) j) (ne_eqb _ _ other)
    ]))
  where
    closed : (k : ℕ) → day_of t (from + k) ≡ day + 1 → could_take t (from + k) j ≡ false
    closed k same =
        let rooms : 0 < room_count t = good.slots.rooms.count.0 in
        let row : (from + k) / room_count t ≡ day = omega (arith, same) in
        let at : day * room_count t + (from + k) % room_count t ≡ from + k = ap (λ q. q * room_count t + (from + k) % room_count t) (sym row) ∙ div-add-mod' (from + k) (room_count t) in
        let none : (nat_le from (from + k) && could_take t (from + k) j) ≡ false =
        subst (λ s. (nat_le from s && could_take t s j) ≡ false) at (h ((from + k) % room_count t) (mod-lt (from + k) rooms)) in
        rw (le-leb from (from + k) (omega arith)) at none
