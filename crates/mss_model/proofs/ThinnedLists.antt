-- The distribution of those who are there after thinning: its weights, its total, and thinning in turn.
use Rattle.std.proofs.Common.{◌≡◌, ℕ, zero, suc, ◌+◌, ◌-◌, ◌*◌, ◌^◌, ◌<◌, ◌≤◌, List, length, get_or, refl, sym, ap, ◌∙◌, sum, arith, map, add-one, ◌⊎◌, inl, inr}
use Rattle.std.specs.List.{range_with_len}
use Rattle.std.proofs.lemmas.List.FromFn.{length-map-range_with_len, get_or-map-range_with_len}
use Rattle.std.proofs.lemmas.Bool.{cases_lt}
use Rattle.std.proofs.Math.Nat.{mul-le-mul, pow-suc, pow-zero, sub_self}
use Rattle.mss_model.specs.Sums.{sum_below}
use Rattle.mss_model.specs.Thinning.{thinning_weight, thinned_weight, thinned_by}
use Rattle.mss_model.proofs.TwiceThinned.{one_more, present_absent, mixture, mixture_twice, present_absent_above, mixture_above}
use Rattle.mss_model.proofs.RangeSums.{sum_below_ext, sum_below_scale, sum_below_linear, sum_of_list}

-- ---- weights

pub thinning_weight_is : (p d k x : ℕ) → thinning_weight p d k x ≡ present_absent p (d - p) k x
thinning_weight_is p d zero zero = refl
thinning_weight_is p d zero (suc x) = refl
thinning_weight_is p d (suc k) zero = rw (thinning_weight_is p d k zero) refl
thinning_weight_is p d (suc k) (suc x) = rw (thinning_weight_is p d k x, thinning_weight_is p d k (suc x)) refl

weights_are_mixture : (p d n : ℕ) (counts : List ℕ) (x : ℕ) → p ≤ d →
    sum_below (suc n) (λ k. get_or counts k 0 * thinning_weight p d k x * d ^ (n - k)) ≡ mixture p (d - p) n (λ k. get_or counts k 0) x
weights_are_mixture p d zero counts x h = rw (thinning_weight_is p d 0 x, sub_self 0, pow-zero) (omega arith)
weights_are_mixture p d (suc n) counts x h =
    let whole : p + (d - p) ≡ d = omega arith in
    let lower : sum_below (suc n) (λ k. get_or counts k 0 * thinning_weight p d k x * d ^ (suc n - k))
    ≡ sum_below (suc n) (λ k. d * (get_or counts k 0 * thinning_weight p d k x * d ^ (n - k)))
    = sum_below_ext (suc n) _ _ (λ k l.
    let e : suc n - k ≡ suc (n - k) = omega arith in
    rw (e, pow-suc) (omega arith)) in
    let last : suc n - suc n ≡ 0 = omega arith in
    let scaled : sum_below (suc n) (λ k. get_or counts k 0 * thinning_weight p d k x * d ^ (suc n - k))
    ≡ d * mixture p (d - p) n (λ k. get_or counts k 0) x
    = lower ∙ sum_below_scale (suc n) d (λ k. get_or counts k 0 * thinning_weight p d k x * d ^ (n - k))
    ∙ ap (λ m. d * m) (weights_are_mixture p d n counts x h) in
    let ending : get_or counts (suc n) 0 * thinning_weight p d (suc n) x * d ^ (suc n - suc n)
    ≡ get_or counts (suc n) 0 * present_absent p (d - p) (suc n) x
    = rw (last, thinning_weight_is p d (suc n) x, pow-zero) (omega arith) in
    rw whole (omega (arith, scaled, ending))

pub thinned_weight_is : (p d n : ℕ) (counts : List ℕ) (x : ℕ) → p ≤ d →
    thinned_weight p d n counts x ≡ mixture p (d - p) n (λ k. get_or counts k 0) x
thinned_weight_is p d n counts x h =
    ap (λ m. sum_below m (λ k. get_or counts k 0 * thinning_weight p d k x * d ^ (n - k))) (add-one n)
    ∙ weights_are_mixture p d n counts x h

-- ---- totals

pub sum_one_more : (p q m : ℕ) (f : ℕ → ℕ) →
    sum_below (suc m) (one_more p q f) + p * f m ≡ (p + q) * sum_below (suc m) f
sum_one_more p q zero f = omega arith
sum_one_more p q (suc m) f = omega (arith, sum_one_more p q m f)

sum_present_absent : (p q k m : ℕ) → k ≤ m → sum_below (suc m) (present_absent p q k) ≡ (p + q) ^ k
sum_present_absent p q zero zero h = rw pow-zero refl
sum_present_absent p q zero (suc m) h = omega (arith, sum_present_absent p q zero m (omega arith))
sum_present_absent p q (suc k) m h =
    let above : present_absent p q k m ≡ 0 = present_absent_above p q k m (omega arith) in
    let whole : sum_below (suc m) (present_absent p q (suc k)) + p * present_absent p q k m ≡ (p + q) * sum_below (suc m) (present_absent p q k)
    = sum_one_more p q m (present_absent p q k) in
    let gone : p * present_absent p q k m ≡ 0 = rw above (omega arith) in
    let e : sum_below (suc m) (present_absent p q (suc k)) ≡ (p + q) * sum_below (suc m) (present_absent p q k) = omega arith in
    e ∙ rw (sum_present_absent p q k m (omega arith), pow-suc) (omega arith)

sum_mixture : (p q n m : ℕ) (g : ℕ → ℕ) → n ≤ m → sum_below (suc m) (mixture p q n g) ≡ sum_below (suc n) g * (p + q) ^ n
sum_mixture p q zero m g h =
    sum_below_scale (suc m) (g 0) (present_absent p q 0) ∙ ap (λ s. g 0 * s) (sum_present_absent p q 0 m h) ∙ omega arith
sum_mixture p q (suc n) m g h =
    sum_below_linear (suc m) (p + q) (g (suc n)) (mixture p q n g) (present_absent p q (suc n))
    ∙ rw (sum_mixture p q n m g (omega arith), sum_present_absent p q (suc n) m h, pow-suc) (omega arith)

-- ---- lists

pub thinned_by_at : (p d : ℕ) (counts : List ℕ) (n x : ℕ) → p ≤ d → x < length counts → length counts - 1 ≡ n →
    get_or (thinned_by p d counts) x 0 ≡ mixture p (d - p) n (λ k. get_or counts k 0) x
thinned_by_at p d counts n x h l e =
    get_or-map-range_with_len (thinned_weight p d (length counts - 1) counts) 0 (length counts) x x 0 l (omega arith)
    ∙ thinned_weight_is p d (length counts - 1) counts x h
    ∙ ap (λ m. mixture p (d - p) m (λ k. get_or counts k 0) x) e

pub length-thinned_by : (p d : ℕ) (counts : List ℕ) → length (thinned_by p d counts) ≡ length counts
length-thinned_by p d counts = length-map-range_with_len (thinned_weight p d (length counts - 1) counts) 0 (length counts)

mixture_ext : (p q n : ℕ) (f g : ℕ → ℕ) (x : ℕ) → ((k : ℕ) → k ≤ n → f k ≡ g k) → mixture p q n f x ≡ mixture p q n g x
mixture_ext p q zero f g x h = rw (h 0 (omega arith)) refl
mixture_ext p q (suc n) f g x h =
    rw (mixture_ext p q n f g x (λ k l. h k (omega arith)), h (suc n) (omega arith)) refl

absent_by : (p1 q1 d1 p2 q2 d2 : ℕ) → p1 + q1 ≡ d1 → p2 + q2 ≡ d2 → d1 * d2 - p1 * p2 ≡ q1 * (p2 + q2) + p1 * q2
absent_by p1 q1 d1 p2 q2 d2 e1 e2 = rw (← e1, ← e2) (omega arith)

absent_of : (p1 d1 p2 d2 : ℕ) → p1 ≤ d1 → p2 ≤ d2 → d1 * d2 - p1 * p2 ≡ (d1 - p1) * (p2 + (d2 - p2)) + p1 * (d2 - p2)
absent_of p1 d1 p2 d2 h1 h2 =
    let e1 : p1 + (d1 - p1) ≡ d1 = omega arith in
    let e2 : p2 + (d2 - p2) ≡ d2 = omega arith in
    absent_by p1 (d1 - p1) d1 p2 (d2 - p2) d2 e1 e2

-- those who are there after two thinnings: the product of the chances
pub thinned_by_twice : (p1 d1 p2 d2 : ℕ) (counts : List ℕ) (x : ℕ) → p1 ≤ d1 → p2 ≤ d2 → x < length counts →
    get_or (thinned_by p2 d2 (thinned_by p1 d1 counts)) x 0 ≡ get_or (thinned_by (p1 * p2) (d1 * d2) counts) x 0
thinned_by_twice p1 d1 p2 d2 counts x h1 h2 l =
    let n : ℕ = length counts - 1 in
    let same : length (thinned_by p1 d1 counts) ≡ length counts = length-thinned_by p1 d1 counts in
    let inner : mixture p2 (d2 - p2) n (λ k. get_or (thinned_by p1 d1 counts) k 0) x
    ≡ mixture p2 (d2 - p2) n (mixture p1 (d1 - p1) n (λ k. get_or counts k 0)) x
    = mixture_ext p2 (d2 - p2) n _ _ x (λ k le. thinned_by_at p1 d1 counts n k h1 (omega arith) refl) in
    let absent : d1 * d2 - p1 * p2 ≡ (d1 - p1) * (p2 + (d2 - p2)) + p1 * (d2 - p2) = absent_of p1 d1 p2 d2 h1 h2 in
    thinned_by_at p2 d2 (thinned_by p1 d1 counts) n x h2 (omega arith) (omega arith)
    ∙ inner
    ∙ mixture_twice p1 (d1 - p1) p2 (d2 - p2) (λ k. get_or counts k 0) n x
    ∙ ap (λ q. mixture (p1 * p2) q n (λ k. get_or counts k 0) x) (sym absent)
    ∙ sym (thinned_by_at (p1 * p2) (d1 * d2) counts n x (mul-le-mul h1 h2) l refl)

-- the total of those who are there
pub thinned_by_sum : (p d : ℕ) (counts : List ℕ) (n : ℕ) → p ≤ d → length counts ≡ suc n →
    sum (thinned_by p d counts) ≡ sum_below (suc n) (λ k. get_or counts k 0) * d ^ n
thinned_by_sum p d counts n h e =
    let whole : p + (d - p) ≡ d = omega arith in
    let shown : sum (thinned_by p d counts) ≡ sum_below (suc n) (thinned_weight p d (length counts - 1) counts)
    = ap (λ m. sum (map (thinned_weight p d (length counts - 1) counts) (range_with_len 0 m))) e
    ∙ sum_of_list (suc n) (thinned_weight p d (length counts - 1) counts) in
    let mixed : sum_below (suc n) (thinned_weight p d (length counts - 1) counts) ≡ sum_below (suc n) (mixture p (d - p) n (λ k. get_or counts k 0))
    = sum_below_ext (suc n) _ _ (λ x l. thinned_weight_is p d (length counts - 1) counts x h
    ∙ ap (λ m. mixture p (d - p) m (λ k. get_or counts k 0) x) (omega arith)) in
    shown ∙ mixed ∙ sum_mixture p (d - p) n n (λ k. get_or counts k 0) (omega arith)
    ∙ ap (λ w. sum_below (suc n) (λ k. get_or counts k 0) * w ^ n) whole

-- ---- a certain presence changes nothing

certain_apart : (k x : ℕ) → x < k → present_absent 1 0 k x ≡ 0
certain_apart zero x h = omega arith
certain_apart (suc k) zero h = omega arith
certain_apart (suc k) (suc x) h = rw (certain_apart k x (omega arith)) (omega arith)

certain_same : (k : ℕ) → present_absent 1 0 k k ≡ 1
certain_same zero = refl
certain_same (suc k) = rw (certain_same k) (omega arith)

le_split : (x n : ℕ) → x ≤ suc n → (x ≤ n) ⊎ (x ≡ suc n)
le_split x n h = elim (cases_lt x (suc n)) [ inl l ↦ inl (omega arith) | inr l ↦ inr (omega arith) ]

mixture_certain : (n : ℕ) (g : ℕ → ℕ) (x : ℕ) → x ≤ n → mixture 1 0 n g x ≡ g x
mixture_certain zero g zero h = omega arith
mixture_certain zero g (suc x) h = omega arith
mixture_certain (suc n) g x h =
    elim (le_split x n h) [
      | inl l ↦ rw (mixture_certain n g x l, certain_apart (suc n) x (omega arith)) (omega arith)
      | inr e ↦ rw (e, mixture_above 1 0 g n (suc n) (omega arith), certain_same (suc n)) (omega arith)
    ]

pub thinned_by_certain : (counts : List ℕ) (x : ℕ) → x < length counts → get_or (thinned_by 1 1 counts) x 0 ≡ get_or counts x 0
thinned_by_certain counts x l =
    thinned_by_at 1 1 counts (length counts - 1) x (omega arith) l refl
    ∙ mixture_certain (length counts - 1) (λ k. get_or counts k 0) x (omega arith)
