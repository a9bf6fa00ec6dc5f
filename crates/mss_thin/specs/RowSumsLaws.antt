-- The thinning rows: each weight is at most the exact one, and a row sums nearly to the unit.
use Rattle.std.proofs.Common.{◌≡◌, ℕ, zero, suc, ◌+◌, ◌-◌, ◌*◌, ◌/◌, ◌^◌, ◌<◌, ◌≤◌, refl, sym, ap, ◌∙◌, arith}
use Rattle.std.proofs.Math.Nat.{mul-le-mul, mul-le-mul_right, mul-le-mul_left, pow-suc, pow-zero, le_of_mul-le-mul_right}
use Rattle.mss_model.specs.Sums.{sum_below}
use Rattle.mss_model.specs.Thinning.{thinning_weight}
use Rattle.mss_model.proofs.TwiceThinned.{one_more}
use Rattle.mss_model.proofs.RangeSums.{sum_below_ext}
use Rattle.mss_model.proofs.ThinnedLists.{sum_one_more}
use Rattle.mss_enclose.specs.Unit.{unit}
use Rattle.mss_thin.specs.ThinRows.{row_weight}
use Rattle.mss_thin.specs.FloorsLaws.{floor_under, sum_floors_under, sum_floors_over}

pub row_above : (parts p k x : ℕ) → k < x → row_weight parts p k x ≡ 0
row_above parts p zero zero h = omega arith
row_above parts p zero (suc x) h = refl
row_above parts p (suc k) zero h = omega arith
row_above parts p (suc k) (suc x) h =
    rw (row_above parts p k x (omega arith), row_above parts p k (suc x) (omega arith)) (omega arith)

-- ---- at most the exact weights

row_step : (p q d a b wa wb s u : ℕ) → a * s ≤ wa * u → b * s ≤ wb * u →
    (p * a + q * b) / d * (s * d) ≤ (p * wa + q * wb) * u
row_step p q d a b wa wb s u ha hb =
    let f : (p * a + q * b) / d * d * s ≤ (p * a + q * b) * s = mul-le-mul_right s (floor_under (p * a + q * b) d) in
    let ma : p * (a * s) ≤ p * (wa * u) = mul-le-mul_left p ha in
    let mb : q * (b * s) ≤ q * (wb * u) = mul-le-mul_left q hb in
    omega arith

row_step_first : (q d b wb s u : ℕ) → b * s ≤ wb * u → q * b / d * (s * d) ≤ q * wb * u
row_step_first q d b wb s u hb =
    let f : q * b / d * d * s ≤ q * b * s = mul-le-mul_right s (floor_under (q * b) d) in
    let mb : q * (b * s) ≤ q * (wb * u) = mul-le-mul_left q hb in
    omega arith

pub row_below : (parts p k x : ℕ) → row_weight parts p k x * parts ^ k ≤ thinning_weight p parts k x * unit
row_below parts p zero zero = rw pow-zero (omega arith)
row_below parts p zero (suc x) = omega arith
row_below parts p (suc k) zero =
    rw pow-suc (row_step_first (parts - p) parts (row_weight parts p k 0) (thinning_weight p parts k 0) (parts ^ k) unit (row_below parts p k 0))
row_below parts p (suc k) (suc x) =
    rw pow-suc (row_step p (parts - p) parts (row_weight parts p k x) (row_weight parts p k (suc x))
    (thinning_weight p parts k x) (thinning_weight p parts k (suc x)) (parts ^ k) unit
    (row_below parts p k x) (row_below parts p k (suc x)))

-- ---- what a row sums to

row_is : (parts p k x : ℕ) → row_weight parts p (suc k) x ≡ one_more p (parts - p) (row_weight parts p k) x / parts
row_is parts p k zero = refl
row_is parts p k (suc x) = refl

-- what the floors of a row lose: one part of the unit for each weight of each row up to it
abbrev pub row_loss : ℕ → ℕ
row_loss zero = 0
row_loss (suc k) = row_loss k + (k + 2)

cancelled : (after floors before terms p last d n : ℕ) → 0 < d → after ≡ floors → last ≡ 0 → terms + p * last ≡ d * before →
    floors * d ≤ terms → terms ≤ floors * d + n * d → (after ≤ before) × (before ≤ after + n)
cancelled after floors before terms p last d n pos e gone whole under over =
    let gone2 : p * last ≡ 0 = rw gone (omega arith) in
    let up : after * d ≤ before * d = rw e (omega arith) in
    let down : before * d ≤ (after + n) * d = rw e (omega arith) in
    (le_of_mul-le-mul_right up pos, le_of_mul-le-mul_right down pos)

-- one row and the next one, summed
row_sum_step : (parts p k m : ℕ) → 0 < parts → p ≤ parts → k < m →
    (sum_below (suc m) (row_weight parts p (suc k)) ≤ sum_below (suc m) (row_weight parts p k))
    × (sum_below (suc m) (row_weight parts p k) ≤ sum_below (suc m) (row_weight parts p (suc k)) + suc m)
row_sum_step parts p k m pos h l =
    let e : sum_below (suc m) (row_weight parts p (suc k)) ≡ sum_below (suc m) (λ x. one_more p (parts - p) (row_weight parts p k) x / parts)
    = sum_below_ext (suc m) _ _ (λ x _. row_is parts p k x) in
    let whole : sum_below (suc m) (one_more p (parts - p) (row_weight parts p k)) + p * row_weight parts p k m
    ≡ (p + (parts - p)) * sum_below (suc m) (row_weight parts p k)
    = sum_one_more p (parts - p) m (row_weight parts p k) in
    let above : row_weight parts p k m ≡ 0 = row_above parts p k m l in
    let all : p + (parts - p) ≡ parts = omega arith in
    let whole2 : sum_below (suc m) (one_more p (parts - p) (row_weight parts p k)) + p * row_weight parts p k m
    ≡ parts * sum_below (suc m) (row_weight parts p k)
    = whole ∙ ap (λ d. d * sum_below (suc m) (row_weight parts p k)) all in
    cancelled (sum_below (suc m) (row_weight parts p (suc k)))
    (sum_below (suc m) (λ x. one_more p (parts - p) (row_weight parts p k) x / parts))
    (sum_below (suc m) (row_weight parts p k))
    (sum_below (suc m) (one_more p (parts - p) (row_weight parts p k)))
    p (row_weight parts p k m) parts (suc m) pos e above whole2
    (sum_floors_under (suc m) parts (one_more p (parts - p) (row_weight parts p k)))
    (sum_floors_over (suc m) parts (one_more p (parts - p) (row_weight parts p k)) pos)

-- a row sums to at most the unit, and the loss is small
row_total : (parts p k : ℕ) → 0 < parts → p ≤ parts →
    (sum_below (suc k) (row_weight parts p k) ≤ unit) × (unit ≤ sum_below (suc k) (row_weight parts p k) + row_loss k)
row_total parts p zero pos h = (omega arith, omega arith)
row_total parts p (suc k) pos h =
    let before = row_total parts p k pos h in
    let step = row_sum_step parts p k (suc k) pos h (omega arith) in
    let above : row_weight parts p k (suc k) ≡ 0 = row_above parts p k (suc k) (omega arith) in
    (omega arith, omega arith)

sum_beyond : (parts p k j : ℕ) → sum_below (suc (k + j)) (row_weight parts p k) ≡ sum_below (suc k) (row_weight parts p k)
sum_beyond parts p k zero = ap (λ m. sum_below (suc m) (row_weight parts p k)) (omega arith)
sum_beyond parts p k (suc j) =
    let e : k + suc j ≡ suc (k + j) = omega arith in
    rw e (omega (arith, sum_beyond parts p k j, row_above parts p k (suc (k + j)) (omega arith)))

-- the same over a longer range
pub row_total_to : (parts p k m : ℕ) → 0 < parts → p ≤ parts → k ≤ m →
    (sum_below (suc m) (row_weight parts p k) ≤ unit) × (unit ≤ sum_below (suc m) (row_weight parts p k) + row_loss k)
row_total_to parts p k m pos h l =
    let e : k + (m - k) ≡ m = omega arith in
    let same : sum_below (suc m) (row_weight parts p k) ≡ sum_below (suc k) (row_weight parts p k)
    = ap (λ i. sum_below (suc i) (row_weight parts p k)) (sym e) ∙ sum_beyond parts p k (m - k) in
    let total = row_total parts p k pos h in
    (omega arith, omega arith)

row_loss_is : (k : ℕ) → 2 * row_loss k ≡ k * (k + 3)
row_loss_is zero = refl
row_loss_is (suc k) = omega (arith, row_loss_is k)

pub row_loss_few : (k : ℕ) → k ≤ 16 → row_loss k ≤ 152
row_loss_few k h =
    let h2 : k + 3 ≤ 19 = omega arith in
    let m : k * (k + 3) ≤ 16 * 19 = mul-le-mul h h2 in
    omega (arith, row_loss_is k)
