-- One thinning of a kept list: it stays below the exact weights, and it loses little.
use Rattle.std.proofs.Common.{◌≡◌, ℕ, zero, suc, ◌+◌, ◌-◌, ◌*◌, ◌/◌, ◌^◌, ◌<◌, ◌≤◌, arith, lit<}
use Rattle.std.proofs.Math.Nat.{mul-le-mul, mul-le-mul_right, mul-le-mul_left, pow-suc, le_of_mul-le-mul_right}
use Rattle.mss_model.specs.Sums.{sum_below}
use Rattle.mss_model.proofs.TwiceThinned.{mixture, present_absent}
use Rattle.mss_model.proofs.RangeSums.{sum_below_le, sum_below_swap, sum_below_scale, sum_below_add}
use Rattle.mss_model.proofs.ThinnedLists.{thinning_weight_is}
use Rattle.mss_enclose.specs.Unit.{unit}
use Rattle.mss_thin.specs.ThinRows.{row_weight}
use Rattle.mss_thin.specs.RowSumsLaws.{row_below, row_total_to, row_loss_few, row_loss}
use Rattle.mss_thin.specs.FloorsLaws.{floor_under, sum_floors_under, sum_floors_over}

-- one term: kept number by kept chance
term_below : (parts p k x h t e : ℕ) → h * t ≤ e * unit →
    h * row_weight parts p k x * (t * parts ^ k) ≤ e * present_absent p (parts - p) k x * (unit * unit)
term_below parts p k x h t e le =
    let r : row_weight parts p k x * parts ^ k ≤ present_absent p (parts - p) k x * unit
    = rw (← thinning_weight_is p parts k x) (row_below parts p k x) in
    let m : (h * t) * (row_weight parts p k x * parts ^ k) ≤ (e * unit) * (present_absent p (parts - p) k x * unit) = mul-le-mul le r in
    omega arith

add_terms : (s a t w w2 m b u d d2 : ℕ) → w2 ≡ w * d → d2 ≡ d → s * (t * w) ≤ m * u → a * (t * w2) ≤ b * u →
    (s + a) * (t * w2) ≤ (d2 * m + b) * u
add_terms s a t w w2 m b u d d2 e1 e2 hs ha =
    let scaled : s * (t * w) * d ≤ m * u * d = mul-le-mul_right d hs in
    let ha2 = rw e1 at ha in
    rw (e1, e2) (omega arith)

terms_below : (parts p n x t : ℕ) (h e : ℕ → ℕ) → p ≤ parts → ((k : ℕ) → k ≤ n → h k * t ≤ e k * unit) →
    sum_below (suc n) (λ k. h k * row_weight parts p k x) * (t * parts ^ n) ≤ mixture p (parts - p) n e x * (unit * unit)
terms_below parts p zero x t h e small le = omega (arith, term_below parts p 0 x (h 0) t (e 0) (le 0 (omega arith)))
terms_below parts p (suc n) x t h e small le =
    let below : sum_below (suc n) (λ k. h k * row_weight parts p k x) * (t * parts ^ n) ≤ mixture p (parts - p) n e x * (unit * unit)
    = terms_below parts p n x t h e small (λ k l. le k (omega arith)) in
    let last : h (suc n) * row_weight parts p (suc n) x * (t * parts ^ suc n) ≤ e (suc n) * present_absent p (parts - p) (suc n) x * (unit * unit)
    = term_below parts p (suc n) x (h (suc n)) t (e (suc n)) (le (suc n) (omega arith)) in
    let all : p + (parts - p) ≡ parts = omega arith in
    let grown : parts ^ suc n ≡ parts ^ n * parts = pow-suc parts n in
    add_terms (sum_below (suc n) (λ k. h k * row_weight parts p k x)) (h (suc n) * row_weight parts p (suc n) x) t (parts ^ n) (parts ^ suc n)
    (mixture p (parts - p) n e x) (e (suc n) * present_absent p (parts - p) (suc n) x) (unit * unit) parts (p + (parts - p)) grown all below last

floored : (s t m u : ℕ) → 0 < u → s * t ≤ m * (u * u) → s / u * t ≤ m * u
floored s t m u pos h =
    let f : s / u * u * t ≤ s * t = mul-le-mul_right t (floor_under s u) in
    let g : s / u * t * u ≤ m * u * u = omega arith in
    le_of_mul-le-mul_right g pos

-- Where the numbers h lie below the weights e of total t, the thinned number lies below the thinned weight.
pub step_below : (parts p n x t : ℕ) (h e : ℕ → ℕ) → p ≤ parts → ((k : ℕ) → k ≤ n → h k * t ≤ e k * unit) →
    sum_below (suc n) (λ k. h k * row_weight parts p k x) / unit * (t * parts ^ n) ≤ mixture p (parts - p) n e x * unit
step_below parts p n x t h e small le =
    floored (sum_below (suc n) (λ k. h k * row_weight parts p k x)) (t * parts ^ n) (mixture p (parts - p) n e x) unit (lit< tt)
    (terms_below parts p n x t h e small le)

term_under : (h r : ℕ) → r ≤ unit → h * r ≤ unit * h
term_under h r le = omega (arith, mul-le-mul_left h le)

term_over : (h r loss : ℕ) → unit ≤ r + loss → loss ≤ 152 → unit * h ≤ h * r + 152 * h
term_over h r loss le few = let m : h * unit ≤ h * (r + 152) = mul-le-mul_left h (omega arith) in omega arith

-- The thinned numbers sum to at most the sum before, and to 169 less than it at least: 17 for their own floors, and
-- 152 for those of the rows.
pub step_sum : (parts p n : ℕ) (h : ℕ → ℕ) → 0 < parts → p ≤ parts → n ≤ 16 → sum_below (suc n) h ≤ unit →
    (sum_below (suc n) (λ x. sum_below (suc n) (λ k. h k * row_weight parts p k x) / unit) ≤ unit)
    × (sum_below (suc n) h ≤ sum_below (suc n) (λ x. sum_below (suc n) (λ k. h k * row_weight parts p k x) / unit) + 169)
step_sum parts p n h pos small few le =
    let m : ℕ = suc n in
    let under : sum_below (suc n) (λ x. sum_below (suc n) (λ k. h k * row_weight parts p k x) / unit) * unit
    ≤ sum_below (suc n) (λ x. sum_below (suc n) (λ k. h k * row_weight parts p k x))
    = sum_floors_under (suc n) unit (λ x. sum_below (suc n) (λ k. h k * row_weight parts p k x)) in
    let over : sum_below (suc n) (λ x. sum_below (suc n) (λ k. h k * row_weight parts p k x))
    ≤ sum_below (suc n) (λ x. sum_below (suc n) (λ k. h k * row_weight parts p k x) / unit) * unit + suc n * unit
    = sum_floors_over (suc n) unit (λ x. sum_below (suc n) (λ k. h k * row_weight parts p k x)) (lit< tt) in
    let swapped : sum_below (suc n) (λ x. sum_below (suc n) (λ k. h k * row_weight parts p k x))
    ≡ sum_below (suc n) (λ k. sum_below (suc n) (λ x. h k * row_weight parts p k x))
    = sum_below_swap (suc n) (suc n) (λ x k. h k * row_weight parts p k x) in
    let each_under : sum_below (suc n) (λ k. sum_below (suc n) (λ x. h k * row_weight parts p k x)) ≤ sum_below (suc n) (λ k. unit * h k)
    = sum_below_le (suc n) _ _ (λ k l.
    let s : sum_below (suc n) (λ x. h k * row_weight parts p k x) ≡ h k * sum_below (suc n) (row_weight parts p k)
    = sum_below_scale (suc n) (h k) (row_weight parts p k) in
    let t : h k * sum_below (suc n) (row_weight parts p k) ≤ unit * h k
    = term_under (h k) (sum_below (suc n) (row_weight parts p k)) (row_total_to parts p k n pos small (omega arith)).0 in
    omega (arith, s, t)) in
    let each_over : sum_below (suc n) (λ k. unit * h k) ≤ sum_below (suc n) (λ k. sum_below (suc n) (λ x. h k * row_weight parts p k x) + 152 * h k)
    = sum_below_le (suc n) _ _ (λ k l.
    let s : sum_below (suc n) (λ x. h k * row_weight parts p k x) ≡ h k * sum_below (suc n) (row_weight parts p k)
    = sum_below_scale (suc n) (h k) (row_weight parts p k) in
    let t : unit * h k ≤ h k * sum_below (suc n) (row_weight parts p k) + 152 * h k
    = term_over (h k) (sum_below (suc n) (row_weight parts p k)) (row_loss k)
    (row_total_to parts p k n pos small (omega arith)).1 (row_loss_few k (omega arith)) in
    omega (arith, s, t)) in
    let scaled : sum_below (suc n) (λ k. unit * h k) ≡ unit * sum_below (suc n) h = sum_below_scale (suc n) unit h in
    let scaled2 : sum_below (suc n) (λ k. 152 * h k) ≡ 152 * sum_below (suc n) h = sum_below_scale (suc n) 152 h in
    let added : sum_below (suc n) (λ k. sum_below (suc n) (λ x. h k * row_weight parts p k x) + 152 * h k)
    ≡ sum_below (suc n) (λ k. sum_below (suc n) (λ x. h k * row_weight parts p k x)) + sum_below (suc n) (λ k. 152 * h k)
    = sum_below_add (suc n) (λ k. sum_below (suc n) (λ x. h k * row_weight parts p k x)) (λ k. 152 * h k) in
    closed (sum_below (suc n) h) (sum_below (suc n) (λ x. sum_below (suc n) (λ k. h k * row_weight parts p k x) / unit))
    (sum_below (suc n) (λ x. sum_below (suc n) (λ k. h k * row_weight parts p k x)))
    (sum_below (suc n) (λ k. sum_below (suc n) (λ x. h k * row_weight parts p k x)))
    (sum_below (suc n) (λ k. unit * h k)) (sum_below (suc n) (λ k. 152 * h k))
    (sum_below (suc n) (λ k. sum_below (suc n) (λ x. h k * row_weight parts p k x) + 152 * h k))
    (suc n) under over swapped each_under each_over scaled scaled2 added (omega arith) le
  where
    closed : (before after inner turned whole lost both m : ℕ) → after * unit ≤ inner → inner ≤ after * unit + m * unit → inner ≡ turned →
        turned ≤ whole → whole ≤ both → whole ≡ unit * before → lost ≡ 152 * before → both ≡ turned + lost → m ≤ 17 → before ≤ unit →
        (after ≤ unit) × (before ≤ after + 169)
    closed before after inner turned whole lost both m under over swapped each_under each_over scaled scaled2 added few le =
        (omega arith, omega arith)
