-- The floored list of a prefix lies at or below the census of each legal cycle that the prefix begins.
use Rattle.std.proofs.Common.{◌≡◌, ℕ, zero, suc, ◌+◌, ◌*◌, ◌-◌, ◌/◌, ◌<◌, ◌≤◌, ◌==◌, ◌&&◌, Bool, true, false, cond, List, [], ◌∷◌, ◌++◌, length, map, sum, take, get_or, refl, sym, ap, subst, ◌∙◌, arith, inl, inr, eq-eqb, nat_le, lit<, le_refl, mul-le-mul_right, le_of_mul-le-mul_right}
use Rattle.std.specs.List.{range_with_len, filter, take-map}
use Rattle.std.proofs.lemmas.Bool.{cases_Bool, cases_eq, and_from}
use Rattle.std.proofs.lemmas.List.{length-append}
use Rattle.std.proofs.Math.Nat.{div-lt_iff_lt-mul}
use Rattle.mss_model.specs.declared.parts.TableParts.{TableParts}
use Rattle.mss_model.specs.BlockAtAge.{block_at_age}
use Rattle.mss_model.specs.Distribution.{convolution, convolution_all}
use Rattle.mss_model.specs.Percentile.{cumulative}
use Rattle.mss_model.specs.TableWords.{room_count, slot_count, block_of, day_of}
use Rattle.mss_model.specs.Limits.{IsTables}
use Rattle.mss_model.specs.Occurrences.{lies_on, offset, offset_ages}
use Rattle.mss_model.specs.Census.{those_present, census}
use Rattle.mss_model.specs.Legality.{IsLegal, could_take, some_below}
use Rattle.mss_model.proofs.ConvolutionSums.{nonempty, convolution-unit_right}
use Rattle.mss_enclose.specs.Unit.{unit}
use Rattle.mss_enclose.specs.Kept.{StandsFor, LeanStands, PartsStand, raised, lean_convolution}
use Rattle.mss_enclose.specs.LeanLaws.{length-raised, sum-raised, lean-push}
use Rattle.mss_enclose.specs.ManyPushesLaws.{all-stand, sum-convolution_all}
use Rattle.mss_rules.specs.RuleLaws.{each_below}
use Rattle.mss_floor.specs.ForcedBlocks.{forced_blocks, blocks_from}
use Rattle.mss_floor.specs.FloorLists.{choices, floor_of, is_open_day, specialty_floor, steady_list}
use Rattle.mss_floor.specs.FlooredLists.{fitting, floors_for, floored_list, LiesBelow}
use Rattle.mss_floor.specs.LowestSums.{AreFull}
use Rattle.mss_census.specs.TableBlocksLaws.{block-good}
use Rattle.mss_floor.specs.KnownListsLaws.{steady_sum, steady-stands}
use Rattle.mss_floor.specs.OrderOfSumsLaws.{IsBelow, is_below-trans, is_below-self, is_below-convolution, nothing-below}
use Rattle.mss_floor.specs.LaterSlotsLaws.{slot_census, later_census, later-positive, later-append, TakenOut, take-out}
use Rattle.mss_floor.specs.FloorOrderLaws.{Among, sum-floor, floor-below, floor-one, raised-below}
use Rattle.mss_floor.specs.NeededBlocksLaws.{times, times-take, forced-times, forced-lie}

-- ---- a floor lies at or below what a block adds

among-kept : (f : ℕ → List ℕ) (p : ℕ → Bool) (from n q : ℕ) → from ≤ q → q < from + n → p q ≡ true → Among (f q) (map f (filter p (range_with_len from n)))
among-kept f p from zero q a b h = absurd (omega arith)
among-kept f p from (suc n) q a b h = elim (cases_eq from q) [
  | inl same ↦ let yes : p from ≡ true = ap p same ∙ h in rw yes (inl (ap f (sym same)))
  | inr other ↦ later (f q) (filter p (range_with_len (from + 1) n)) (p from) (among-kept f p (from + 1) n q (omega (arith, other)) (omega (arith, b)) h)
]
  where
    later : (b ls : List ℕ) (y : Bool) → Among b (map f ls) → Among b (map f (cond y (from ∷ ls) ls))
    later b ls true m = inr m
    later b ls false m = m

pub full-kept : (f : ℕ → List ℕ) (p : ℕ → Bool) (ds : List ℕ) → ((q : ℕ) → sum (f q) ≡ unit) → AreFull (map f (filter p ds))
full-kept f p [] h = tt
full-kept f p (d ∷ ds) h = more (filter p ds) (p d) (full-kept f p ds h)
  where
    more : (ls : List ℕ) (y : Bool) → AreFull (map f ls) → AreFull (map f (cond y (d ∷ ls) ls))
    more ls true m = (h d, m)
    more ls false m = m

pub steady-full : (t : TableParts) (j o : ℕ) → IsTables t → sum (raised (steady_list t.days (block_of t j) o)) ≡ unit
steady-full t j o good =
    let s : StandsFor (steady_list t.days (block_of t j) o) (steady_sum t.days (block_of t j) o) = steady-stands t.days o (block_of t j) (block-good t j good) in
    sum-raised (steady_list t.days (block_of t j) o) (omega (arith, s.same_length, nonempty (steady_sum t.days (block_of t j) o) s.positive)) s.fits

pub choices-full : (t : TableParts) (p : List ℕ) (j day : ℕ) → IsTables t → AreFull (choices t p j day)
choices-full t p j day good =
    full-kept (λ q. raised (steady_list t.days (block_of t j) (offset t.days day q))) (is_open_day t p j) (range_with_len 1 t.days) (λ q. steady-full t j (offset t.days day q) good)

pub floor-full : (t : TableParts) (p : List ℕ) (day j : ℕ) → IsTables t → sum (specialty_floor t p day j) ≡ unit
floor-full t p day j good = sum-floor (choices t p j day) (choices-full t p j day good)

pub some-passes : (n : ℕ) (test : ℕ → Bool) (k : ℕ) → k < n → test k ≡ true → some_below n test ≡ true
some-passes n test k l h = elim (cases_Bool (some_below n test)) [
  | inl passed ↦ passed
  | inr none ↦ absurd (let e : false ≡ true = sym (each_below n test none k l) ∙ h in cc)
]

-- on a day on which nobody of a block in an open slot is there
pub nobody-floor : (t : TableParts) (p : List ℕ) (j day q : ℕ) → IsTables t → q < t.days → is_open_day t p j (q + 1) ≡ true
    → length (steady_list t.days (block_of t j) (offset t.days day (q + 1))) ≡ 1 → unit ∷ [] ≡ floor_of (choices t p j day)
nobody-floor t p j day q good inside o one =
    let listed : ℕ → List ℕ = λ d. raised (steady_list t.days (block_of t j) (offset t.days day d)) in
    floor-one (raised (steady_list t.days (block_of t j) (offset t.days day (q + 1)))) (choices t p j day) (choices-full t p j day good)
    (among-kept listed (is_open_day t p j) 1 t.days (q + 1) (omega arith) (omega (arith, inside)) o)
    (length-raised (steady_list t.days (block_of t j) (offset t.days day (q + 1))) ∙ one)

open-day : (t : TableParts) (p : List ℕ) (j place : ℕ) → length p ≤ place → place < slot_count t → could_take t place j ≡ true → is_open_day t p j (day_of t place) ≡ true
open-day t p j place from before could =
    let e : length p + (place - length p) ≡ place = omega (arith, from) in
    some-passes (slot_count t - length p) (λ k. (day_of t (length p + k) == day_of t place) && could_take t (length p + k) j) (place - length p) (omega (arith, from, before))
    (and_from _ _ (eq-eqb _ _ (ap (day_of t) e)) (subst (λ s. could_take t s j ≡ true) (sym e) could))

presences : (t : TableParts) (j : ℕ) (ns : List ℕ) → map (those_present t) (map (λ n. record { specialty = j; age = n }) ns) ≡ map (block_at_age (block_of t j)) ns
presences t j [] = refl
presences t j (n ∷ ns) = ap (λ r. block_at_age (block_of t j) n ∷ r) (presences t j ns)

slot-is : (t : TableParts) (w day place j : ℕ) → lies_on t.ward_of w j ≡ true → slot_census t w day place j ≡ steady_sum t.days (block_of t j) (offset t.days day (day_of t place))
slot-is t w day place j on = rw on (ap convolution_all (presences t j (offset_ages t.days (length (block_of t j).stays) (offset t.days day (day_of t place)))))

specialty-below : (t : TableParts) (p : List ℕ) (w day j place : ℕ) → IsTables t → length p ≤ place → place < slot_count t → could_take t place j ≡ true
    → lies_on t.ward_of w j ≡ true → IsBelow (specialty_floor t p day j) (slot_census t w day place j)
specialty-below t p w day j place good from before could on =
    let o : ℕ = offset t.days day (day_of t place) in
    let listed : ℕ → List ℕ = λ q. raised (steady_list t.days (block_of t j) (offset t.days day q)) in
    let rooms : 0 < room_count t = good.slots.rooms.count.0 in
    let row : place / room_count t < t.days = (div-lt_iff_lt-mul rooms).1 before in
    let among : Among (raised (steady_list t.days (block_of t j) (offset t.days day (day_of t place)))) (choices t p j day) =
    among-kept listed (is_open_day t p j) 1 t.days (day_of t place) (omega arith) (omega (arith, row)) (open-day t p j place from before could) in
    subst (IsBelow (specialty_floor t p day j)) (sym (slot-is t w day place j on))
    (is_below-trans (specialty_floor t p day j) (raised (steady_list t.days (block_of t j) o)) (steady_sum t.days (block_of t j) o)
    (floor-below (raised (steady_list t.days (block_of t j) o)) (choices t p j day) (choices-full t p j day good) among)
    (raised-below (steady_list t.days (block_of t j) o) (steady_sum t.days (block_of t j) o) (steady-stands t.days o (block_of t j) (block-good t j good))))

-- ---- floors lie at or below the slots behind a prefix

lies-some : (ward_of : List ℕ) (w j : ℕ) → lies_on ward_of w j ≡ true → 0 < j
lies-some ward_of w zero h = absurd (cc)
lies-some ward_of w (suc j) h = omega arith

first-time : (j : ℕ) (gs : List ℕ) → times j (j ∷ gs) ≡ 1 + times j gs
first-time j gs = let e : (j == j) ≡ true = eq-eqb j j refl in rw e refl

floors-below : (t : TableParts) (w day stop slot : ℕ) (F : ℕ → List ℕ) (gs r : List ℕ) → IsTables t
    → ((j place : ℕ) → slot ≤ place → place < stop → could_take t place j ≡ true → lies_on t.ward_of w j ≡ true → IsBelow (F j) (slot_census t w day place j))
    → slot + length r ≤ stop → ((i : ℕ) → 0 < times i gs → lies_on t.ward_of w i ≡ true) → ((i : ℕ) → 0 < i → times i gs ≤ blocks_from t i slot r)
    → IsBelow (convolution_all (map F gs)) (later_census t w day slot r)
floors-below t w day stop slot F [] r good each within on few = nothing-below (later_census t w day slot r) (later-positive t w day slot r good)
floors-below t w day stop slot F (j ∷ gs) r good each within on few =
    let one : times j (j ∷ gs) ≡ 1 + times j gs = first-time j gs in
    let here : lies_on t.ward_of w j ≡ true = on j (omega (arith, one)) in
    let out : TakenOut t w day stop j slot r = take-out t w day stop j slot r good within (omega (arith, one, few j (lies-some t.ward_of w j here))) in
    subst (IsBelow (convolution (F j) (convolution_all (map F gs)))) (sym out.sum)
    (is_below-convolution (F j) (slot_census t w day out.place j) (convolution_all (map F gs)) (later_census t w day slot out.left)
    (each j out.place out.from out.before out.could here)
    (floors-below t w day stop slot F gs out.left good each (omega (arith, within, out.long))
    (λ i some. on i (omega (arith, some)))
    (λ i some. omega (arith, few i some, out.counts i some))))

-- ---- the floored list

pub fitting-front : (most long : ℕ) (parts : List (List ℕ)) → (m : ℕ) × (fitting most long parts ≡ take m parts)
fitting-front zero long parts = (0, refl)
fitting-front (suc most) long [] = (0, refl)
fitting-front (suc most) long (part ∷ parts) =
    let rest = fitting-front most (long + length part - 1) parts in
    elim (cases_Bool (nat_le (long + length part) 15362)) [
      | inl fits ↦ (suc rest.0, rw fits (ap (λ l. part ∷ l) rest.1))
      | inr over ↦ (0, rw over refl)
    ]

-- the census of a prefix and the floors that are pushed, as exact distributions
abbrev pub floored_sum : TableParts → List ℕ → ℕ → ℕ → ℕ → List ℕ
floored_sum t p w day long = convolution_all (census t w day p ∷ floors_for t p w day long)

pub floored-below : (t : TableParts) (p r : List ℕ) (w day long : ℕ) → IsTables t → IsLegal t (p ++ r)
    → IsBelow (floored_sum t p w day long) (census t w day (p ++ r))
floored-below t p r w day long good h =
    let F : ℕ → List ℕ = specialty_floor t p day in
    let front = fitting-front (slot_count t - length p) long (map F (forced_blocks t p w)) in
    let gs : List ℕ = take front.0 (forced_blocks t p w) in
    let pushed : floors_for t p w day long ≡ map F (take front.0 (forced_blocks t p w)) = front.1 ∙ take-map F front.0 (forced_blocks t p w) in
    let whole : length p + length r ≡ slot_count t = sym (length-append p r) ∙ h.whole in
    let none : 0 + length p ≡ length p = omega arith in
    let behind : IsBelow (convolution_all (map F gs)) (later_census t w day (length p) r) =
    floors-below t w day (slot_count t) (length p) F gs r good
    (λ j place from before could on. specialty-below t p w day j place good from before could on)
    (omega (arith, whole))
    (λ i some. forced-lie t p w i (omega (arith, some, times-take i front.0 (forced_blocks t p w))))
    (λ i some. omega (arith, times-take i front.0 (forced_blocks t p w), forced-times t p r w i h)) in
    subst (λ fs. IsBelow (convolution_all (census t w day p ∷ fs)) (census t w day (p ++ r))) (sym pushed)
    (subst (IsBelow (convolution (census t w day p) (convolution_all (map F gs)))) (sym (later-append t w day 0 p r good))
    (is_below-convolution (census t w day p) (census t w day p) (convolution_all (map F gs)) (later_census t w day (0 + length p) r)
    (is_below-self (census t w day p) (later-positive t w day 0 p good))
    (subst (λ s. IsBelow (convolution_all (map F gs)) (later_census t w day s r)) (sym none) behind)))

-- ---- floors as parts

full-stands : (a : List ℕ) → sum a ≡ unit → StandsFor a a
full-stands a h = record {
  same_length = refl;
  positive = rw h (lit< tt);
  fits = rw h (le_refl unit);
  below = λ x. rw h (le_refl (get_or a x 0 * unit));
}

parts-full : (parts : List (List ℕ)) → AreFull parts → PartsStand parts parts
parts-full [] h = tt
parts-full (a ∷ parts) h = (full-stands a h.0, parts-full parts h.1)

take-full : (m : ℕ) (parts : List (List ℕ)) → AreFull parts → AreFull (take m parts)
take-full zero parts h = tt
take-full (suc m) [] h = tt
take-full (suc m) (a ∷ parts) h = (h.0, take-full m parts h.1)

pub floors-full : (t : TableParts) (p : List ℕ) (day : ℕ) (gs : List ℕ) → IsTables t → AreFull (map (specialty_floor t p day) gs)
floors-full t p day [] good = tt
floors-full t p day (j ∷ gs) good = (floor-full t p day j good, floors-full t p day gs good)

pub floors-stand : (t : TableParts) (p : List ℕ) (w day long : ℕ) → IsTables t → PartsStand (floors_for t p w day long) (floors_for t p w day long)
floors-stand t p w day long good =
    let all : List (List ℕ) = map (specialty_floor t p day) (forced_blocks t p w) in
    let front = fitting-front (slot_count t - length p) long all in
    subst (λ ps. PartsStand ps ps) (sym front.1) (parts-full (take front.0 all) (take-full front.0 all (floors-full t p day (forced_blocks t p w) good)))

-- whatever list stands for the census, with the floors it stands for the census and the floors
pub floored-stands : (j : List ℕ → List ℕ → List ℕ) (S : List ℕ → List ℕ → Type 0)
    → ((a b e f : List ℕ) → S a e → StandsFor b f → S (j a b) (convolution e f))
    → (t : TableParts) (p : List ℕ) (w day : ℕ) (list : List ℕ) → IsTables t → S list (census t w day p)
    → S (floored_list j t p w day list) (floored_sum t p w day (length list))
floored-stands j S law t p w day list good h =
    all-stand j S law list (census t w day p) (floors_for t p w day (length list)) (floors_for t p w day (length list)) h
    (later-positive t w day 0 p good) (floors-stand t p w day (length list) good)

-- the floored list of a full list
pub floored-lies_below : (t : TableParts) (p r : List ℕ) (w day : ℕ) (list : List ℕ) → IsTables t → IsLegal t (p ++ r) → LeanStands list (census t w day p)
    → LiesBelow (floored_list lean_convolution t p w day list) (census t w day (p ++ r))
floored-lies_below t p r w day list good h stands =
    let s : LeanStands (floored_list lean_convolution t p w day list) (floored_sum t p w day (length list)) = floored-stands lean_convolution LeanStands lean-push t p w day list good stands in
    let b : IsBelow (floored_sum t p w day (length list)) (census t w day (p ++ r)) = floored-below t p r w day (length list) good h in
    record {
      positive = b.order.e_positive;
      whole = s.full;
      no_longer = omega (arith, s.same_length, b.no_longer);
      above = λ x. above (cumulative (floored_list lean_convolution t p w day list) x) (cumulative (floored_sum t p w day (length list)) x) (cumulative (census t w day (p ++ r)) x)
          (sum (floored_sum t p w day (length list))) (sum (census t w day (p ++ r))) unit s.positive (s.above x) (b.order.more x);
    }
  where
    above : (a d e d_sum e_sum u : ℕ) → 0 < d_sum → d * u ≤ a * d_sum → e * d_sum ≤ d * e_sum → e * u ≤ a * e_sum
    above a d e d_sum e_sum u some p q = le_of_mul-le-mul_right {k = d_sum} (omega (arith, mul-le-mul_right e_sum p, mul-le-mul_right u q)) some

pub floors-are_full : (t : TableParts) (p : List ℕ) (w day long : ℕ) → IsTables t → AreFull (floors_for t p w day long)
floors-are_full t p w day long good =
    let all : List (List ℕ) = map (specialty_floor t p day) (forced_blocks t p w) in
    let front = fitting-front (slot_count t - length p) long all in
    subst AreFull (sym front.1) (take-full front.0 all (floors-full t p day (forced_blocks t p w) good))

-- a prefix alone lies at or below its census with the floors
pub part-below : (t : TableParts) (p : List ℕ) (w day long : ℕ) → IsTables t → IsBelow (census t w day p) (floored_sum t p w day long)
part-below t p w day long good =
    let e : List ℕ = census t w day p in
    let some : 0 < sum (census t w day p) = later-positive t w day 0 p good in
    let rest : 0 < sum (convolution_all (floors_for t p w day long)) = sum-convolution_all (floors_for t p w day long) (floors_for t p w day long) (floors-stand t p w day long good) in
    subst (λ d. IsBelow d (floored_sum t p w day long)) (convolution-unit_right e (nonempty e some))
    (is_below-convolution e e (1 ∷ []) (convolution_all (floors_for t p w day long)) (is_below-self e some) (nothing-below (convolution_all (floors_for t p w day long)) rest))
