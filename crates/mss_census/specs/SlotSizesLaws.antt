-- How much the lists that are pushed lose, and how long they are.
use Rattle.std.proofs.Common.{◌≡◌, ℕ, suc, ◌+◌, ◌*◌, ◌-◌, ◌<◌, ◌≤◌, Bool, true, false, cond, List, [], ◌∷◌, length, sum_by, sym, ap, subst, ◌∙◌, arith, mul-le-mul_left, le_trans}
use Rattle.std.proofs.lemmas.List.{length-append}
use Rattle.std.proofs.lemmas.List.Sums.{sum_by-append}
use Rattle.mss_model.specs.declared.parts.TableParts.{TableParts}
use Rattle.mss_model.specs.Sums.{sum_below}
use Rattle.mss_model.specs.BlockAtAge.{BlockView, IsBlock}
use Rattle.mss_model.specs.TableWords.{block_of, day_of, slot_count}
use Rattle.mss_model.specs.Limits.{IsTables}
use Rattle.mss_model.specs.Occurrences.{lies_on, offset}
use Rattle.mss_model.proofs.ListsAsFunctions.{sum_below-first, sum_below-eq}
use Rattle.mss_model.proofs.RangeParts.{sum_below_longer, sum_below_rows}
use Rattle.mss_model.proofs.OffsetAges.{age_count, age_count-le}
use Rattle.mss_census.specs.declared.quantity.Quantity.{Quantity}
use Rattle.mss_census.specs.WardLists.{quantity_lists, block_lists, one_at, slot_parts, parts_from}
use Rattle.mss_census.specs.FineCountLaws.{room-counts}
use Rattle.mss_census.specs.SlotSumsLaws.{slot-parts-are, slot-adds}
use Rattle.mss_census.specs.TableBlocksLaws.{block-good}

-- the ages below 60 that a slot meets
abbrev pub meets : TableParts → ℕ → ℕ → ℕ
meets t day slot = age_count t.days 60 (offset t.days day (day_of t slot))

size-case : (b : Bool) (g : List ℕ → ℕ) (ps : List (List ℕ)) (m : ℕ) → sum_by g ps ≤ m → sum_by g (cond b ps []) ≤ m
size-case true g ps m h = h
size-case false g ps m h = omega arith

times-both : {a x : ℕ} (c m s : ℕ) → x ≡ m + s → a ≤ c * m + c * s → a ≤ c * x
times-both c m s e l = rw e (omega (arith, l))

pub parts-size : (q : Quantity) (t : TableParts) (w day slot : ℕ) (options : List ℕ) (g : List ℕ → ℕ) (c : ℕ) → IsTables t → 0 < w
    → ((slot option : ℕ) → sum_by g (one_at (block_lists q t.days (block_of t option)) (offset t.days day (day_of t slot)))
    ≤ c * age_count t.days (length (block_of t option).stays) (offset t.days day (day_of t slot)))
    → sum_by g (parts_from (quantity_lists q t) w day slot options) ≤ c * sum_below (length options) (λ k. meets t day (slot + k))
parts-size q t w day slot [] g c h pos m = omega arith
parts-size q t w day slot (option ∷ options) g c h pos m =
    let b : BlockView = block_of t option in
    let o : ℕ = offset t.days day (day_of t slot) in
    let good : IsBlock b = block-good t option h in
    let e : 60 - length b.stays + length b.stays ≡ 60 = omega (arith, good.stays_good.few) in
    let most : age_count t.days (length b.stays) o ≤ age_count t.days 60 o = subst (λ n. age_count t.days (length b.stays) o ≤ age_count t.days n o) e (age_count-le t.days o (length b.stays) (60 - length b.stays)) in
    let one : sum_by g (one_at (block_lists q t.days b) o) ≤ c * meets t day slot = le_trans (m slot option) (mul-le-mul_left c most) in
    let here : sum_by g (slot_parts (quantity_lists q t) w day slot option) ≤ c * meets t day slot
    = subst (λ ps. sum_by g ps ≤ c * meets t day slot) (sym (slot-parts-are q t w day slot option h pos)) (size-case (lies_on t.ward_of w option) g (one_at (block_lists q t.days b) o) (c * meets t day slot) one) in
    let first : sum_below (suc (length options)) (λ k. meets t day (slot + k)) ≡ meets t day (slot + 0) + sum_below (length options) (λ k. meets t day (slot + suc k)) =
    sum_below-first (length options) (λ k. meets t day (slot + k)) in
    let z : meets t day (slot + 0) ≡ meets t day slot = ap (meets t day) (let z : slot + 0 ≡ slot = omega arith in z) in
    let moved : sum_below (length options) (λ k. meets t day (slot + suc k)) ≡ sum_below (length options) (λ k. meets t day (slot + 1 + k)) =
    sum_below-eq (length options) (λ k. meets t day (slot + suc k)) (λ k. meets t day (slot + 1 + k)) (λ k l. ap (meets t day) (let s : slot + suc k ≡ slot + 1 + k = omega arith in s)) in
    let split : sum_by g (parts_from (quantity_lists q t) w day slot (option ∷ options)) ≡ sum_by g (slot_parts (quantity_lists q t) w day slot option) + sum_by g (parts_from (quantity_lists q t) w day (slot + 1) options)
    = sum_by-append g (slot_parts (quantity_lists q t) w day slot option) (parts_from (quantity_lists q t) w day (slot + 1) options) in
    let both : sum_by g (parts_from (quantity_lists q t) w day slot (option ∷ options)) ≤ c * meets t day slot + c * sum_below (length options) (λ k. meets t day (slot + 1 + k)) =
    omega (arith, split, here, parts-size q t w day (slot + 1) options g c h pos m) in
    times-both c (meets t day slot) (sum_below (length options) (λ k. meets t day (slot + 1 + k))) (first ∙ ap (λ n. n + sum_below (length options) (λ k. meets t day (slot + suc k))) z ∙ ap (λ n. meets t day slot + n) moved) both

one-few : (b : Bool) (ps : List (List ℕ)) → length ps ≤ 1 → length (cond b ps []) ≤ 1
one-few true ps h = h
one-few false ps h = omega arith

pub parts-few : (q : Quantity) (t : TableParts) (w day slot : ℕ) (options : List ℕ) → IsTables t → 0 < w → length (parts_from (quantity_lists q t) w day slot options) ≤ length options
parts-few q t w day slot [] h pos = omega arith
parts-few q t w day slot (option ∷ options) h pos =
    let one : length (slot_parts (quantity_lists q t) w day slot option) ≤ 1
    = subst (λ ps. length ps ≤ 1) (sym (slot-parts-are q t w day slot option h pos)) (one-few (lies_on t.ward_of w option) _ (slot-adds q t day slot option h).one) in
    omega (arith, one, length-append (slot_parts (quantity_lists q t) w day slot option) (parts_from (quantity_lists q t) w day (slot + 1) options), parts-few q t w day (slot + 1) options h pos)

-- each room meets each age once
pub meets-all : (t : TableParts) (day n : ℕ) → IsTables t → n ≤ slot_count t → sum_below n (λ k. meets t day (0 + k)) ≤ 960
meets-all t day n h l =
    let same : sum_below n (λ k. meets t day (0 + k)) ≡ sum_below n (meets t day) = sum_below-eq n (λ k. meets t day (0 + k)) (meets t day) (λ k lt. ap (meets t day) (let z : 0 + k ≡ k = omega arith in z)) in
    let e : slot_count t - n + n ≡ slot_count t = omega arith in
    let longer : sum_below n (meets t day) ≤ sum_below (slot_count t) (meets t day) = subst (λ m. sum_below n (meets t day) ≤ sum_below m (meets t day)) e (sum_below_longer n (slot_count t - n) (meets t day)) in
    let days : sum_below (t.days * length t.rooms) (meets t day) ≡ length t.rooms * sum_below t.days (λ q. age_count t.days 60 (offset t.days day (q + 1))) =
    sum_below_rows (length t.rooms) t.days (λ q. age_count t.days 60 (offset t.days day (q + 1))) in
    let rooms : length t.rooms * sum_below t.days (λ q. age_count t.days 60 (offset t.days day (q + 1))) ≤ length t.rooms * 60 = mul-le-mul_left (length t.rooms) (room-counts t.days day t.days 60 (omega arith)) in
    omega (arith, same, longer, days, rooms, h.slots.rooms.count.1)
