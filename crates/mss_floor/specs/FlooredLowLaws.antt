-- The low number of a floored list: at most the percentile of each legal cycle, and at least that of the prefix.
use Rattle.std.proofs.Common.{◌≡◌, Bool, true, false, cond, ℕ, zero, suc, ◌+◌, ◌*◌, ◌-◌, ◌^◌, ◌<◌, ◌≤◌, List, [], ◌∷◌, ◌++◌, length, map, lit<, sum_by, refl, ap, arith, inl, inr, nat_le, le_trans, mul-le-mul_right, leb-true}
use Rattle.std.proofs.lemmas.Bool.{cases_Bool}
use Rattle.std.proofs.lemmas.List.Sums.{sum_by-cons}
use Rattle.mss_model.specs.declared.parts.TableParts.{TableParts}
use Rattle.mss_model.specs.Distribution.{convolution, convolution_all}
use Rattle.mss_model.specs.Percentile.{least, percentile_at, percentile_below}
use Rattle.mss_model.specs.TableWords.{slot_count}
use Rattle.mss_model.specs.Limits.{IsTables}
use Rattle.mss_model.specs.Census.{census}
use Rattle.mss_model.specs.Legality.{IsLegal}
use Rattle.mss_enclose.specs.Kept.{StandsFor, Within, rest_of}
use Rattle.mss_enclose.specs.ManyPushesLaws.{all-near, within-more}
use Rattle.mss_floor.specs.FlooredLists.{fitting, floors_for, floored_list}
use Rattle.mss_floor.specs.ForcedBlocks.{forced_blocks}
use Rattle.mss_floor.specs.FloorLists.{specialty_floor}
use Rattle.mss_model.proofs.ConvolutionSums.{nonempty}
use Rattle.mss_model.proofs.ListsAsFunctions.{length-convolution}
use Rattle.mss_floor.specs.LowestSums.{AreFull}
use Rattle.mss_floor.specs.OrderOfSumsLaws.{percentile-below}
use Rattle.mss_floor.specs.LaterSlotsLaws.{later-positive}
use Rattle.mss_floor.specs.ForcedFloorsLaws.{floored_sum, floored-below, floored-stands, floors-stand, floors-full, floors-are_full, part-below}

-- at most the percentile of each legal cycle that the prefix begins
pub floored_low-at_most : (j : List ℕ → List ℕ → List ℕ) (S : List ℕ → List ℕ → Type 0) (low_of : List ℕ → ℕ → ℕ)
    → ((a b e f : List ℕ) → S a e → StandsFor b f → S (j a b) (convolution e f))
    → ((a e : List ℕ) (v : ℕ) → S a e → low_of a v ≤ percentile_at e v)
    → (t : TableParts) (p r : List ℕ) (w day v : ℕ) (list : List ℕ) → IsTables t → IsLegal t (p ++ r) → S list (census t w day p)
    → low_of (floored_list j t p w day list) v ≤ percentile_at (census t w day (p ++ r)) v
floored_low-at_most j S low_of law low t p r w day v list good h stands =
    le_trans (low (floored_list j t p w day list) (floored_sum t p w day (length list)) v (floored-stands j S law t p w day list good stands))
    (percentile-below (floored_sum t p w day (length list)) (census t w day (p ++ r)) v 1000000 (floored-below t p r w day (length list) good h))

-- ---- how near it is

fitting-few : (most long : ℕ) (parts : List (List ℕ)) → length (fitting most long parts) ≤ most
fitting-few zero long parts = omega arith
fitting-few (suc most) long [] = omega arith
fitting-few (suc most) long (part ∷ parts) = elim (cases_Bool (nat_le (long + length part) 15362)) [
  | inl fits ↦ rw fits (omega (arith, fitting-few most (long + length part - 1) parts))
  | inr over ↦ rw over (omega arith)
]

fitting-short : (most long : ℕ) (parts : List (List ℕ)) → AreFull parts → long ≤ 15361 → long + sum_by (λ p. length p - 1) (fitting most long parts) ≤ 15361
fitting-short zero long parts full h = omega (arith, h)
fitting-short (suc most) long [] full h = omega (arith, h)
fitting-short (suc most) long (part ∷ parts) full h = elim (cases_Bool (nat_le (long + length part) 15362)) [
  | inl fits ↦
      let l : long + length part ≤ 15362 = leb-true _ _ fits in
      let some : 0 < length part = nonempty part (rw (full.0) (lit< tt)) in
      let e : fitting (suc most) long (part ∷ parts) ≡ part ∷ fitting most (long + length part - 1) parts = rw fits refl in
      omega (
        arith,
        l,
        h,
        some,
        ap (sum_by (λ p. length p - 1)) e,
        sum_by-cons (λ p. length p - 1) part (fitting most (long + length part - 1) parts),
        fitting-short most (long + length part - 1) parts full.1 (omega (arith, l)),
      )
  | inr over ↦ let e : fitting (suc most) long (part ∷ parts) ≡ [] = rw over refl in omega (arith, h, ap (sum_by (λ p. length p - 1)) e)
]

full-rests : (parts : List (List ℕ)) → AreFull parts → sum_by rest_of parts ≡ 0
full-rests [] h = refl
full-rests (a ∷ parts) h = omega (arith, sum_by-cons rest_of a parts, h.0, full-rests parts h.1)

pub floored-near : (j : List ℕ → List ℕ → List ℕ) (S : List ℕ → List ℕ → Type 0)
    → ((a b e f : List ℕ) → S a e → StandsFor b f → S (j a b) (convolution e f))
    → ((a b e f : List ℕ) (s r : ℕ) → S a e → Within s a e → StandsFor b f → Within r b f → Within (s + r + (length a + length b - 1)) (j a b) (convolution e f))
    → ((a b : List ℕ) → length (j a b) ≡ length a + length b - 1)
    → (t : TableParts) (p : List ℕ) (w day slack : ℕ) (list : List ℕ) → IsTables t → S list (census t w day p) → Within slack list (census t w day p)
    → length list ≤ 15361 → slack + (slot_count t - length p) * 15361 ≤ 2 ^ 30
    → Within (2 ^ 30) (floored_list j t p w day list) (floored_sum t p w day (length list))
floored-near j S law near len t p w day slack list good stands close short fits =
    let fs : List (List ℕ) = floors_for t p w day (length list) in
    let few : length (floors_for t p w day (length list)) * 15361 ≤ (slot_count t - length p) * 15361 = mul-le-mul_right 15361 (fitting-few (slot_count t - length p) (length list) (map (specialty_floor t p day) (forced_blocks t p w))) in
    let rests : sum_by rest_of (floors_for t p w day (length list)) ≡ 0 = full-rests fs (floors-are_full t p w day (length list) good) in
    within-more (slack + sum_by rest_of fs + length fs * 15361) (2 ^ 30) (floored_list j t p w day list) (floored_sum t p w day (length list))
    (omega (arith, few, rests, fits))
    (all-near j S law near len 15361 slack list (census t w day p) fs fs stands (later-positive t w day 0 p good) close (floors-stand t p w day (length list) good)
    (fitting-short (slot_count t - length p) (length list) (map (specialty_floor t p day) (forced_blocks t p w)) (floors-full t p day (forced_blocks t p w) good) short))

-- ---- how large it is

sum-long : (parts : List (List ℕ)) → AreFull parts → length (convolution_all parts) ≡ 1 + sum_by (λ p. length p - 1) parts
sum-long [] h = refl
sum-long (a ∷ parts) h =
    let some : 0 < length a = nonempty a (rw (h.0) (lit< tt)) in
    omega (arith, some, length-convolution a (convolution_all parts), sum-long parts h.1, sum_by-cons (λ p. length p - 1) a parts)

floored_sum-long : (t : TableParts) (p : List ℕ) (w day long : ℕ) → IsTables t → length (census t w day p) ≡ long → long ≤ 15361
    → length (floored_sum t p w day long) ≤ 15361
floored_sum-long t p w day long good same short =
    omega (
      arith,
      same,
      length-convolution (census t w day p) (convolution_all (floors_for t p w day long)),
      sum-long (floors_for t p w day long) (floors-are_full t p w day long good),
      fitting-short (slot_count t - length p) long (map (specialty_floor t p day) (forced_blocks t p w)) (floors-full t p day (forced_blocks t p w) good) short,
    )

least-within : (n : ℕ) (test : ℕ → Bool) → least n test ≤ n
least-within zero test = omega arith
least-within (suc n) test = pick (test 0) (least-within n (λ x. test (suc x)))
  where
    pick : (b : Bool) → least n (λ x. test (suc x)) ≤ n → cond b 0 (suc (least n (λ x. test (suc x)))) ≤ suc n
    pick true h = omega arith
    pick false h = omega arith

-- no larger than the longest list
pub floored_low-short : (j : List ℕ → List ℕ → List ℕ) (S : List ℕ → List ℕ → Type 0) (low_of : List ℕ → ℕ → ℕ)
    → ((a b e f : List ℕ) → S a e → StandsFor b f → S (j a b) (convolution e f))
    → ((a e : List ℕ) (v : ℕ) → S a e → low_of a v ≤ percentile_at e v)
    → (t : TableParts) (p : List ℕ) (w day v : ℕ) (list : List ℕ) → IsTables t → S list (census t w day p) → length (census t w day p) ≡ length list → length list ≤ 15361
    → low_of (floored_list j t p w day list) v ≤ 15361
floored_low-short j S low_of law low t p w day v list good stands same short =
    le_trans (low (floored_list j t p w day list) (floored_sum t p w day (length list)) v (floored-stands j S law t p w day list good stands))
    (le_trans (least-within (length (floored_sum t p w day (length list))) _) (floored_sum-long t p w day (length list) good same short))

-- at least the percentile of the prefix at the level below
pub floored_low-at_least : (j : List ℕ → List ℕ → List ℕ) (S : List ℕ → List ℕ → Type 0) (low_of : List ℕ → ℕ → ℕ)
    → ((a b e f : List ℕ) → S a e → StandsFor b f → S (j a b) (convolution e f))
    → ((a e : List ℕ) (v : ℕ) → S a e → Within (2 ^ 30) a e → percentile_below e v ≤ low_of a v)
    → (t : TableParts) (p : List ℕ) (w day v : ℕ) (list : List ℕ) → IsTables t → S list (census t w day p)
    → Within (2 ^ 30) (floored_list j t p w day list) (floored_sum t p w day (length list))
    → percentile_below (census t w day p) v ≤ low_of (floored_list j t p w day list) v
floored_low-at_least j S low_of law low t p w day v list good stands close =
    le_trans (percentile-below (census t w day p) (floored_sum t p w day (length list)) (v * 2 ^ 30 - 1000000) (1000000 * 2 ^ 30) (part-below t p w day (length list) good))
    (low (floored_list j t p w day list) (floored_sum t p w day (length list)) v (floored-stands j S law t p w day list good stands) close)
