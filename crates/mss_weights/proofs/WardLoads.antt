-- The census of a ward on a day weighs at least the load.
use Rattle.std.proofs.Common.{◌≡◌, ℕ, zero, suc, ◌+◌, ◌<◌, ◌≤◌, Bool, true, false, cond, List, [], ◌∷◌, ◌++◌, length, get_or, sum, refl, sym, ap, subst, ◌∙◌, arith}
use Rattle.std.specs.Prelude.{if◌then◌else◌}
use Rattle.std.specs.List.{All}
use Rattle.std.proofs.lemmas.List.Elements.{All-head, All-tail}
use Rattle.mss_model.specs.declared.parts.TableParts.{TableParts}
use Rattle.mss_model.specs.Distribution.{convolution_all}
use Rattle.mss_model.specs.Limits.{IsTables}
use Rattle.mss_model.specs.Sums.{sum_below}
use Rattle.mss_model.specs.TableWords.{block_of, day_of, specialty_count, option_count}
use Rattle.mss_model.specs.Occurrences.{lies_on, offset}
use Rattle.mss_model.specs.BlockAtAge.{block_at_age}
use Rattle.mss_model.specs.Census.{census}
use Rattle.mss_thin.specs.BlockLists.{kept_at_age}
use Rattle.mss_model.proofs.ConvolutionSums.{AllPositive, positive-all}
use Rattle.mss_model.proofs.ListsAsFunctions.{sum_below-first}
use Rattle.mss_model.proofs.RangeSums.{sum_below_ext}
use Rattle.mss_weights.specs.Steady.{steady_sum}
use Rattle.mss_thin.specs.BlockAgesLaws.{present-ages}
use Rattle.mss_thin.specs.OffsetListsLaws.{offset-stands}
use Rattle.mss_census.specs.declared.quantity.Quantity.TheVariants.{Census}
use Rattle.mss_census.specs.TableBlocksLaws.{block-good, offset-lt}
use Rattle.mss_census.specs.SlotSumsLaws.{sums_from, slots-sum, exact-is}
use Rattle.mss_weights.specs.Light.{Weighs}
use Rattle.mss_weights.specs.Loads.{slot_load, load_from}
use Rattle.mss_weights.proofs.LightSums.{weighs-none, weighs-convolution}

-- each block weighs at least the number that `weight` has for its specialty and offset
abbrev pub AllWeigh : ℕ → ℕ → ℕ → ℕ → TableParts → (ℕ → ℕ → ℕ) → Type 0
AllWeigh b d p q t weight = (j o : ℕ) → 0 < j → j ≤ specialty_count t → o < t.days → Weighs b d p q (steady_sum t.days (block_of t j) o) (weight j o)

-- the exact distribution that an option of a slot adds to its ward on a day
abbrev slot_sum : TableParts → ℕ → ℕ → ℕ → List ℕ
slot_sum t day slot option = steady_sum t.days (block_of t option) (offset t.days day (day_of t slot))

slot-positive : (t : TableParts) (day slot option : ℕ) → IsTables t → 0 < sum (slot_sum t day slot option)
slot-positive t day slot option good =
    let b = block_of t option in
    (offset-stands (kept_at_age b) (block_at_age b) t.days (length b.stays) (offset t.days day (day_of t slot)) (present-ages b (block-good t option good))).positive

sums-positive : (t : TableParts) (w day slot : ℕ) (r : List ℕ) → IsTables t → AllPositive (sums_from Census t w day slot r)
sums-positive t w day slot [] good = tt
sums-positive t w day slot (option ∷ r) good = case (lies_on t.ward_of w option) (sums-positive t w day (slot + 1) r good)
  where
    case : (y : Bool) → AllPositive (sums_from Census t w day (slot + 1) r) → AllPositive (cond y (slot_sum t day slot option ∷ []) [] ++ sums_from Census t w day (slot + 1) r)
    case true rest = (slot-positive t day slot option good, rest)
    case false rest = rest

-- the census, slot by slot
census-slots : (t : TableParts) (w day : ℕ) (c : List ℕ) → IsTables t → 0 < w → census t w day c ≡ convolution_all (sums_from Census t w day 0 c)
census-slots t w day c good some = exact-is Census t w day c ∙ slots-sum Census t w day 0 c good some

pub census-positive : (t : TableParts) (w day : ℕ) (c : List ℕ) → IsTables t → 0 < w → 0 < sum (census t w day c)
census-positive t w day c good some = subst (λ e. 0 < sum e) (sym (census-slots t w day c good some)) (positive-all (sums_from Census t w day 0 c) (sums-positive t w day 0 c good))

none-more : (b d p q : ℕ) (e : List ℕ) (a : ℕ) → Weighs b d p q e a → Weighs b d p q e (0 + a)
none-more b d p q e a h = subst (Weighs b d p q e) (let z : a ≡ 0 + a = omega arith in z) h

sums-weigh : (b d p q : ℕ) (t : TableParts) (weight : ℕ → ℕ → ℕ) (w day slot : ℕ) (r : List ℕ) → IsTables t → AllWeigh b d p q t weight
    → All (λ option. option < option_count t) r → Weighs b d p q (convolution_all (sums_from Census t w day slot r)) (load_from weight t w day slot r)
sums-weigh b d p q t weight w day slot [] good all known = weighs-none b d p q
sums-weigh b d p q t weight w day slot (zero ∷ r) good all known =
    none-more b d p q (convolution_all (sums_from Census t w day (slot + 1) r)) (load_from weight t w day (slot + 1) r)
    (sums-weigh b d p q t weight w day (slot + 1) r good all (All-tail (λ option. option < option_count t) zero r known))
sums-weigh b d p q t weight w day slot (suc j ∷ r) good all known =
    case (lies_on t.ward_of w (suc j)) (sums-weigh b d p q t weight w day (slot + 1) r good all (All-tail (λ option. option < option_count t) (suc j) r known))
  where
    case : (y : Bool) → Weighs b d p q (convolution_all (sums_from Census t w day (slot + 1) r)) (load_from weight t w day (slot + 1) r)
        → Weighs b d p q (convolution_all (cond y (slot_sum t day slot (suc j) ∷ []) [] ++ sums_from Census t w day (slot + 1) r))
        ((if y then weight (suc j) (offset t.days day (day_of t slot)) else 0) + load_from weight t w day (slot + 1) r)
    case true rest =
        let known_j : suc j < option_count t = All-head (λ option. option < option_count t) (suc j) r known in
        weighs-convolution b d p q (slot_sum t day slot (suc j)) (convolution_all (sums_from Census t w day (slot + 1) r))
        (weight (suc j) (offset t.days day (day_of t slot))) (load_from weight t w day (slot + 1) r)
        (slot-positive t day slot (suc j) good) (positive-all (sums_from Census t w day (slot + 1) r) (sums-positive t w day (slot + 1) r good))
        (all (suc j) (offset t.days day (day_of t slot)) (omega arith) (omega arith) (offset-lt t.days day (day_of t slot) good.slots.days.0)) rest
    case false rest = none-more b d p q (convolution_all (sums_from Census t w day (slot + 1) r)) (load_from weight t w day (slot + 1) r) rest

pub census-weighs : (b d p q : ℕ) (t : TableParts) (weight : ℕ → ℕ → ℕ) (w day : ℕ) (c : List ℕ) → IsTables t → 0 < w → AllWeigh b d p q t weight
    → All (λ option. option < option_count t) c → Weighs b d p q (census t w day c) (load_from weight t w day 0 c)
census-weighs b d p q t weight w day c good some all known =
    subst (λ e. Weighs b d p q e (load_from weight t w day 0 c)) (sym (census-slots t w day c good some)) (sums-weigh b d p q t weight w day 0 c good all known)

-- ---- the load as a sum over slots

pub load-later : (weight : ℕ → ℕ → ℕ) (t : TableParts) (w day slot : ℕ) (r : List ℕ)
    → load_from weight t w day slot r ≡ sum_below (length r) (λ k. slot_load weight t w day (slot + k) (get_or r k 0))
load-later weight t w day slot [] = refl
load-later weight t w day slot (option ∷ r) =
    let z : slot + 0 ≡ slot = omega arith in
    let moved : (k : ℕ) → slot + 1 + k ≡ slot + suc k = λ k. omega arith in
    let first : sum_below (suc (length r)) (λ k. slot_load weight t w day (slot + k) (get_or (option ∷ r) k 0))
    ≡ slot_load weight t w day (slot + 0) option + sum_below (length r) (λ k. slot_load weight t w day (slot + suc k) (get_or r k 0))
    = sum_below-first (length r) (λ k. slot_load weight t w day (slot + k) (get_or (option ∷ r) k 0)) in
    let same : sum_below (length r) (λ k. slot_load weight t w day (slot + 1 + k) (get_or r k 0)) ≡ sum_below (length r) (λ k. slot_load weight t w day (slot + suc k) (get_or r k 0))
    = sum_below_ext (length r) _ _ (λ k l. ap (λ s. slot_load weight t w day s (get_or r k 0)) (moved k)) in
    omega (arith, first, same, load-later weight t w day (slot + 1) r, ap (λ s. slot_load weight t w day s option) z)

pub load-slots : (weight : ℕ → ℕ → ℕ) (t : TableParts) (w day : ℕ) (c : List ℕ)
    → load_from weight t w day 0 c ≡ sum_below (length c) (λ s. slot_load weight t w day s (get_or c s 0))
load-slots weight t w day c =
    load-later weight t w day 0 c ∙ sum_below_ext (length c) _ _ (λ k l. ap (λ s. slot_load weight t w day s (get_or c k 0)) (let e : 0 + k ≡ k = omega arith in e))
