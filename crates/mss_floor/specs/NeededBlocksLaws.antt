-- A legal cycle has, behind each of its prefixes, the blocks that are forced there.
use Rattle.std.proofs.Common.{◌≡◌, ℕ, zero, suc, ◌+◌, ◌*◌, ◌-◌, ◌<◌, ◌≤◌, ◌==◌, ◌&&◌, Bool, true, false, not, List, [], ◌∷◌, ◌++◌, length, get_or, refl, sym, ap, subst, ◌∙◌, arith, inl, inr, eqb-true, eq-eqb, le-leb, nat_le, take, replicate}
use Rattle.std.specs.Prelude.{if◌then◌else◌}
use Rattle.std.specs.List.{range_with_len, flat_map}
use Rattle.std.proofs.lemmas.Bool.{cases_Bool, cases_eq, ne_eqb, and_from, not_from_false}
use Rattle.std.proofs.lemmas.List.{length-append, get_or-append-add}
use Rattle.mss_model.specs.declared.parts.TableParts.{TableParts}
use Rattle.mss_model.specs.Sums.{sum_below}
use Rattle.mss_model.specs.TableWords.{slot_count, specialty_count, minutes_at, low_at, day_of, room_of, is_unsuited, is_barred, fixed_at}
use Rattle.mss_model.specs.Occurrences.{lies_on}
use Rattle.mss_model.specs.Legality.{IsLegal, allows, could_take, given_minutes, option_at}
use Rattle.mss_model.proofs.ListsAsFunctions.{sum_below-first}
use Rattle.mss_model.proofs.RangeSums.{sum_below_ext}
use Rattle.mss_model.proofs.LeastNumber.{least-le}
use Rattle.mss_model.proofs.Largest.{largest-at-least}
use Rattle.mss_rules.specs.SumLaws.{over_rest, over_split}
use Rattle.mss_floor.specs.ForcedBlocks.{missing, open_minutes, longest, blocks_for, forced, forced_blocks, blocks_from}

-- a slot of a legal cycle has a specialty that could take it
could : (t : TableParts) (c : List ℕ) (j s : ℕ) → IsLegal t c → s < length c → 0 < j → option_at c s ≡ j → could_take t s j ≡ true
could t c j s h l some e =
    and_from (not (is_unsuited t j (room_of t s)) && not (is_barred t j (day_of t s))) (allows (fixed_at t s) j)
    (and_from (not (is_unsuited t j (room_of t s))) (not (is_barred t j (day_of t s)))
    (not_from_false _ (subst (λ o. 0 < o → is_unsuited t o (room_of t s) ≡ false) e (h.suited s l) some))
    (not_from_false _ (subst (λ o. 0 < o → is_barred t o (day_of t s) ≡ false) e (h.not_barred s l) some)))
    (subst (λ o. allows (fixed_at t s) o ≡ true) e (h.fixed s l))

-- ---- the minutes of the further blocks

one-block : (o j m most : ℕ) (could : Bool) → (o ≡ j → could ≡ true) → (if could then m else 0) ≤ most
    → (if o == j then m else 0) ≤ (if (o == j) && could then 1 else 0) * most
one-block o j m most could h l = elim (cases_Bool (o == j)) [
  | inl hit ↦ let yes : could ≡ true = h (eqb-true o j hit) in let fits : m ≤ most = rw yes at l in rw (hit, yes) (omega arith)
  | inr miss ↦ rw miss (omega arith)
]

rest-minutes : (t : TableParts) (j slot most : ℕ) (r : List ℕ)
    → ((k : ℕ) → k < length r → get_or r k 0 ≡ j → could_take t (slot + k) j ≡ true)
    → ((k : ℕ) → k < length r → open_minutes t j (slot + k) ≤ most)
    → sum_below (length r) (λ k. if get_or r k 0 == j then minutes_at t (slot + k) else 0) ≤ blocks_from t j slot r * most
rest-minutes t j slot most [] could fits = omega arith
rest-minutes t j slot most (o ∷ r) could fits =
    let f : ℕ → ℕ = λ k. if get_or (o ∷ r) k 0 == j then minutes_at t (slot + k) else 0 in
    let z : slot + 0 ≡ slot = omega arith in
    let moved : (k : ℕ) → slot + suc k ≡ slot + 1 + k = λ k. omega arith in
    let here : (if o == j then minutes_at t slot else 0) ≤ (if (o == j) && could_take t slot j then 1 else 0) * most =
    one-block o j (minutes_at t slot) most (could_take t slot j)
    (λ e. subst (λ s. could_take t s j ≡ true) z (could 0 (omega arith) e)) (subst (λ s. open_minutes t j s ≤ most) z (fits 0 (omega arith))) in
    let later : sum_below (length r) (λ k. if get_or r k 0 == j then minutes_at t (slot + 1 + k) else 0) ≤ blocks_from t j (slot + 1) r * most =
    rest-minutes t j (slot + 1) most r
    (λ k l e. subst (λ s. could_take t s j ≡ true) (moved k) (could (suc k) (omega arith) e))
    (λ k l. subst (λ s. open_minutes t j s ≤ most) (moved k) (fits (suc k) (omega arith))) in
    let first : sum_below (suc (length r)) (λ k. if get_or (o ∷ r) k 0 == j then minutes_at t (slot + k) else 0) ≡ (if o == j then minutes_at t (slot + 0) else 0) + sum_below (length r) (λ k. if get_or r k 0 == j then minutes_at t (slot + suc k) else 0) =
    sum_below-first (length r) f in
    let same : sum_below (length r) (λ k. if get_or r k 0 == j then minutes_at t (slot + suc k) else 0) ≡ sum_below (length r) (λ k. if get_or r k 0 == j then minutes_at t (slot + 1 + k) else 0) =
    sum_below_ext (length r) _ _ (λ k l. ap (λ s. if get_or r k 0 == j then minutes_at t s else 0) (moved k)) in
    omega (arith, first, same, later, here, ap (λ s. if o == j then minutes_at t s else 0) z)

-- ---- the least number of blocks

blocks-fit : (m most b : ℕ) → m ≤ b * most → blocks_for m most ≤ b
blocks-fit m zero b h = omega arith
blocks-fit m (suc most) b h = least-le (suc m) (λ k. nat_le m (k * suc most)) b (le-leb m (b * suc most) h)

none-missing : (most : ℕ) → 0 ≡ blocks_for 0 most
none-missing most = omega (arith, blocks-fit 0 most 0 (omega arith))

-- no low minutes are missing
pub none_forced : (t : TableParts) (p : List ℕ) (j : ℕ) → low_at t j - given_minutes t p j ≡ 0 → 0 ≡ forced t p j
none_forced t p j e = none-missing (longest t p j) ∙ ap (λ m. blocks_for m (longest t p j)) (sym e)

pub forced_given : (t : TableParts) (p r : List ℕ) (j : ℕ) → IsLegal t (p ++ r) → 1 ≤ j → j ≤ specialty_count t → forced t p j ≤ blocks_from t j (length p) r
forced_given t p r j h some known =
    let whole : length p + length r ≡ slot_count t = sym (length-append p r) ∙ h.whole in
    let left : slot_count t - length p ≡ length r = omega (arith, whole) in
    let behind : (k : ℕ) → option_at (p ++ r) (length p + k) ≡ get_or r k 0 = λ k. get_or-append-add p r k 0 in
    let taken : (k : ℕ) → k < length r → get_or r k 0 ≡ j → could_take t (length p + k) j ≡ true =
    λ k l e. could t (p ++ r) j (length p + k) h (omega (arith, l, length-append p r)) (omega (arith, some)) (behind k ∙ e) in
    let fits : (k : ℕ) → k < length r → open_minutes t j (length p + k) ≤ longest t p j =
    λ k l. largest-at-least (slot_count t - length p) (λ k. open_minutes t j (length p + k)) k (omega (arith, l, left)) in
    let rest : sum_below (length r) (λ k. if get_or r k 0 == j then minutes_at t (length p + k) else 0) ≤ blocks_from t j (length p) r * longest t p j =
    rest-minutes t j (length p) (longest t p j) r taken fits in
    let split : given_minutes t (p ++ r) j ≡ given_minutes t p j + over_rest (λ s o. if o == j then minutes_at t s else 0) p r =
    over_split (λ s o. if o == j then minutes_at t s else 0) p r in
    let same : over_rest (λ s o. if o == j then minutes_at t s else 0) p r ≡ sum_below (length r) (λ k. if get_or r k 0 == j then minutes_at t (length p + k) else 0) =
    sum_below_ext (length r) _ _ (λ k l. ap (λ o. if o == j then minutes_at t (length p + k) else 0) (behind k)) in
    blocks-fit (missing t p j) (longest t p j) (blocks_from t j (length p) r)
    (omega (arith, h.enough j (omega (arith, some)) known, split, same, rest))

pub ruleset forced_rules = (forced_given, none_forced)

-- ---- how often a specialty is forced on a ward

abbrev pub times : ℕ → List ℕ → ℕ
times i [] = 0
times i (g ∷ gs) = (if g == i then 1 else 0) + times i gs

pub times-take : (i m : ℕ) (gs : List ℕ) → times i (take m gs) ≤ times i gs
times-take i zero gs = omega arith
times-take i (suc m) [] = omega arith
times-take i (suc m) (g ∷ gs) = omega (arith, times-take i m gs)

times-append : (i : ℕ) (gs hs : List ℕ) → times i (gs ++ hs) ≡ times i gs + times i hs
times-append i [] hs = omega arith
times-append i (g ∷ gs) hs = omega (arith, times-append i gs hs)

times-same : (i n : ℕ) → times i (replicate n i) ≡ n
times-same i zero = refl
times-same i (suc n) = let e : (i == i) ≡ true = eq-eqb i i refl in rw e (omega (arith, times-same i n))

times-other : (i j n : ℕ) → (j == i) ≡ false → times i (replicate n j) ≡ 0
times-other i j zero e = refl
times-other i j (suc n) e = rw e (omega (arith, times-other i j n e))

-- the blocks of one specialty
abbrev repeated : (ℕ → Bool) → (ℕ → ℕ) → ℕ → List ℕ
repeated lies g j = if lies j then replicate (g j) j else []

repeated-other : (lies : ℕ → Bool) (g : ℕ → ℕ) (i j : ℕ) → (j == i) ≡ false → times i (repeated lies g j) ≡ 0
repeated-other lies g i j e = elim (cases_Bool (lies j)) [ inl on ↦ rw on (times-other i j (g j) e) | inr off ↦ rw off refl ]

repeated-same : (lies : ℕ → Bool) (g : ℕ → ℕ) (i bound : ℕ) → (lies i ≡ true → g i ≤ bound) → times i (repeated lies g i) ≤ bound
repeated-same lies g i bound h = elim (cases_Bool (lies i)) [ inl on ↦ rw on (omega (arith, times-same i (g i), h on)) | inr off ↦ rw off (omega arith) ]

no-times : (lies : ℕ → Bool) (g : ℕ → ℕ) (i from n : ℕ) → i < from → times i (flat_map (repeated lies g) (range_with_len from n)) ≡ 0
no-times lies g i from zero l = refl
no-times lies g i from (suc n) l =
    omega (
      arith,
      times-append i (repeated lies g from) (flat_map (repeated lies g) (range_with_len (from + 1) n)),
      repeated-other lies g i from (ne_eqb from i (λ e. omega (arith, e, l))),
      no-times lies g i (from + 1) n (omega (arith, l)),
    )

pub few-times : (lies : ℕ → Bool) (g : ℕ → ℕ) (i bound from n : ℕ) → (from ≤ i → i < from + n → lies i ≡ true → g i ≤ bound)
    → times i (flat_map (repeated lies g) (range_with_len from n)) ≤ bound
few-times lies g i bound from zero h = omega arith
few-times lies g i bound from (suc n) h =
    let split : times i (repeated lies g from ++ flat_map (repeated lies g) (range_with_len (from + 1) n)) ≡ times i (repeated lies g from) + times i (flat_map (repeated lies g) (range_with_len (from + 1) n)) =
    times-append i (repeated lies g from) (flat_map (repeated lies g) (range_with_len (from + 1) n)) in
    elim (cases_eq from i) [
      | inl same ↦
          let here : times from (repeated lies g from) ≤ bound = repeated-same lies g from bound (subst (λ k. from ≤ k → k < from + suc n → lies k ≡ true → g k ≤ bound) (sym same) h (omega arith) (omega arith)) in
          omega (arith, split, subst (λ k. times k (repeated lies g from) ≤ bound) same here, no-times lies g i (from + 1) n (omega (arith, same)))
      | inr other ↦
          omega (arith, split, repeated-other lies g i from (ne_eqb from i other), few-times lies g i bound (from + 1) n (λ a b. h (omega (arith, a)) (omega (arith, b))))
    ]

-- no more often than the cycle has further blocks
pub forced-times : (t : TableParts) (p r : List ℕ) (w i : ℕ) → IsLegal t (p ++ r) → times i (forced_blocks t p w) ≤ blocks_from t i (length p) r
forced-times t p r w i h =
    few-times (lies_on t.ward_of w) (forced t p) i (blocks_from t i (length p) r) 1 (specialty_count t)
    (λ a b l. forced_given t p r i h a (omega (arith, b)))

-- only specialties of the ward
pub forced-lie : (t : TableParts) (p : List ℕ) (w i : ℕ) → 0 < times i (forced_blocks t p w) → lies_on t.ward_of w i ≡ true
forced-lie t p w i some = elim (cases_Bool (lies_on t.ward_of w i)) [
  | inl on ↦ on
  | inr off ↦
      let none : times i (forced_blocks t p w) ≤ 0 = few-times (lies_on t.ward_of w) (forced t p) i 0 1 (specialty_count t) (λ a b l. absurd (let e : false ≡ true = sym off ∙ l in cc)) in
      absurd (omega (arith, none, some))
]
