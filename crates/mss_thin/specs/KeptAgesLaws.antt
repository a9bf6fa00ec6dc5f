-- A kept list follows the patients of a block from one thinning to the next.
use Rattle.std.proofs.Common.{◌≡◌, ℕ, zero, suc, ◌+◌, ◌-◌, ◌*◌, ◌/◌, ◌^◌, ◌<◌, ◌≤◌, List, length, get_or, map, sum, refl, sym, ap, ◌∙◌, arith}
use Rattle.std.proofs.lemmas.Nat.{mul-pow}
use Rattle.std.proofs.lemmas.List.{length-map, get_or-map}
use Rattle.std.proofs.lemmas.List.FromFn.{length-map-range_with_len, get_or-map-range_with_len}
use Rattle.std.proofs.Math.Nat.{mul_comm, mul-le-mul, pow-suc, pow-zero, le_of_mul-le-mul_right}
use Rattle.mss_model.specs.Sums.{sum_below}
use Rattle.mss_model.specs.Thinning.{thinned_by}
use Rattle.mss_model.specs.Presence.{presence}
use Rattle.mss_model.specs.BlockAtAge.{BlockView}
use Rattle.mss_model.proofs.TwiceThinned.{mixture}
use Rattle.mss_model.proofs.RangeSums.{sum_below_ext, sum_below_scale, sum_by_places}
use Rattle.mss_model.proofs.ThinnedLists.{thinned_by_at, length-thinned_by, thinned_by_twice, thinned_by_sum, thinned_by_certain}
use Rattle.mss_enclose.specs.Unit.{unit}
use Rattle.mss_thin.specs.ThinRows.{row_weight, thinned_number, thinned}
use Rattle.mss_thin.specs.BlockLists.{kept_at_age}
use Rattle.mss_thin.specs.ThinningStepsLaws.{step_below, step_sum}
use Rattle.mss_thin.specs.FloorsLaws.{floor_under, sum_floors_under, sum_floors_over}

pub length-thinned : (parts p : ℕ) (kept : List ℕ) → length (thinned parts p kept) ≡ length kept
length-thinned parts p kept = length-map-range_with_len (thinned_number parts p kept) 0 (length kept)

thinned_at : (parts p : ℕ) (kept : List ℕ) (n x : ℕ) → length kept ≡ n → x < n →
    get_or (thinned parts p kept) x 0 ≡ sum_below n (λ k. get_or kept k 0 * row_weight parts p k x) / unit
thinned_at parts p kept n x e l =
    get_or-map-range_with_len (thinned_number parts p kept) 0 (length kept) x x 0 (omega arith) (omega arith)
    ∙ ap (λ m. sum_below m (λ k. get_or kept k 0 * row_weight parts p k x) / unit) e

thinned_sum : (parts p : ℕ) (kept : List ℕ) (n : ℕ) → length kept ≡ n →
    sum (thinned parts p kept) ≡ sum_below n (λ x. sum_below n (λ k. get_or kept k 0 * row_weight parts p k x) / unit)
thinned_sum parts p kept n e =
    sum_by_places (thinned parts p kept) n (length-thinned parts p kept ∙ e)
    ∙ sum_below_ext n _ _ (λ x l. thinned_at parts p kept n x e l)

-- a kept list of a block's patients, each there with the chance p / d, which lacks at most `rest` of the unit
pub record Follows (parts : ℕ) (patients : List ℕ) (p d rest : ℕ) (kept : List ℕ) : Type 0 where
  pub same_length : length kept ≡ length patients
  pub within : sum kept ≤ unit
  pub nearly : unit ≤ sum kept + rest
  pub below : (x : ℕ) → x < length patients → get_or kept x 0 * sum (thinned_by p d patients) ≤ get_or (thinned_by p d patients) x 0 * unit

pub total_is : (p d i : ℕ) (patients : List ℕ) → p ≤ d → length patients ≡ suc i → sum (thinned_by p d patients) ≡ sum patients * d ^ i
total_is p d i patients h e = thinned_by_sum p d patients i h e ∙ ap (λ s. s * d ^ i) (sym (sum_by_places patients (suc i) e))

joined : (a t g s w m : ℕ) → a ≡ s → t ≡ w → m ≡ g → s * w ≤ m * unit → a * t ≤ g * unit
joined a t g s w m e1 e2 e3 le = rw (e1, e2, ← e3) le

-- one thinning more, of those who stay and of those who leave alike
pub thinned_follows : (parts p d q rest : ℕ) (patients kept : List ℕ) → 0 < parts → p ≤ d → q ≤ parts →
    1 ≤ length patients → length patients ≤ 17 →
    Follows parts patients p d rest kept → Follows parts patients (p * q) (d * parts) (rest + 169) (thinned parts q kept)
thinned_follows parts p d q rest patients kept pos h small some few before =
    let e : length patients ≡ suc (length patients - 1) = omega arith in
    let ek : length kept ≡ suc (length patients - 1) = before.same_length ∙ e in
    let places : sum kept ≡ sum_below (suc (length patients - 1)) (λ k. get_or kept k 0) = sum_by_places kept (suc (length patients - 1)) ek in
    let after : sum (thinned parts q kept)
    ≡ sum_below (suc (length patients - 1)) (λ x. sum_below (suc (length patients - 1)) (λ k. get_or kept k 0 * row_weight parts q k x) / unit)
    = thinned_sum parts q kept (suc (length patients - 1)) ek in
    let step = step_sum parts q (length patients - 1) (λ k. get_or kept k 0) pos small (omega arith) (omega (arith, places, before.within)) in
    record {
      same_length = length-thinned parts q kept ∙ before.same_length;
      within = omega (arith, after, step.0);
      nearly = omega (arith, after, places, step.1, before.nearly);
      below = λ x l.
          let same : length (thinned_by p d patients) ≡ length patients = length-thinned_by p d patients in
          let sums : sum_below (suc (length patients - 1)) (λ k. get_or kept k 0 * row_weight parts q k x) / unit
          * (sum (thinned_by p d patients) * parts ^ (length patients - 1))
          ≤ mixture q (parts - q) (length patients - 1) (λ k. get_or (thinned_by p d patients) k 0) x * unit
          = step_below parts q (length patients - 1) x (sum (thinned_by p d patients)) (λ k. get_or kept k 0)
          (λ k. get_or (thinned_by p d patients) k 0) small (λ k le. before.below k (omega arith)) in
          let exact : mixture q (parts - q) (length patients - 1) (λ k. get_or (thinned_by p d patients) k 0) x
          ≡ get_or (thinned_by (p * q) (d * parts) patients) x 0
          = sym (thinned_by_at q parts (thinned_by p d patients) (length patients - 1) x small (omega arith) (omega arith))
          ∙ thinned_by_twice p d q parts patients x h small l in
          let number : get_or (thinned parts q kept) x 0 ≡ sum_below (suc (length patients - 1)) (λ k. get_or kept k 0 * row_weight parts q k x) / unit
          = thinned_at parts q kept (suc (length patients - 1)) x ek (omega arith) in
          let total : sum (thinned_by (p * q) (d * parts) patients) ≡ sum (thinned_by p d patients) * parts ^ (length patients - 1)
          = total_is (p * q) (d * parts) (length patients - 1) patients (mul-le-mul h small) e
          ∙ rw (mul-pow d parts (length patients - 1), total_is p d (length patients - 1) patients h e) (omega arith) in
          joined _ _ _ _ _ _ number total exact sums;
    }

-- ---- the list of age 0

one_pow : (i : ℕ) → 1 ^ i ≡ 1
one_pow zero = refl
one_pow (suc i) = rw (pow-suc 1 i, one_pow i) refl

start_sums : (parts s w n : ℕ) → 0 < parts → w ≡ unit * parts → s * parts ≤ w → w ≤ s * parts + n * parts → n ≤ 17 →
    (s ≤ unit) × (unit ≤ s + 17)
start_sums parts s w n pos e under over few =
    let up : s * parts ≤ unit * parts = omega arith in
    let down : unit * parts ≤ (s + n) * parts = omega arith in
    let a : s ≤ unit = le_of_mul-le-mul_right up pos in
    let b : unit ≤ s + n = le_of_mul-le-mul_right down pos in
    (a, omega arith)

start_follows : (parts : ℕ) (patients : List ℕ) → 0 < parts → 1 ≤ length patients → length patients ≤ 17 → sum patients ≡ parts →
    Follows parts patients 1 1 17 (map (λ c. c * unit / parts) patients)
start_follows parts patients pos some few whole =
    let e : length patients ≡ suc (length patients - 1) = omega arith in
    let len : length (map (λ c. c * unit / parts) patients) ≡ length patients = length-map patients (λ c. c * unit / parts) in
    let places : sum (map (λ c. c * unit / parts) patients) ≡ sum_below (length patients) (λ k. get_or patients k 0 * unit / parts)
    = sum_by_places (map (λ c. c * unit / parts) patients) (length patients) len
    ∙ sum_below_ext (length patients) _ _ (λ k l. get_or-map (λ c. c * unit / parts) patients k 0 0 l) in
    let weights : sum_below (length patients) (λ k. get_or patients k 0 * unit) ≡ unit * parts
    = sum_below_ext (length patients) _ (λ k. unit * get_or patients k 0) (λ k l. mul_comm _ _)
    ∙ sum_below_scale (length patients) unit (λ k. get_or patients k 0)
    ∙ ap (λ s. unit * s) (sym (sum_by_places patients (length patients) refl) ∙ whole) in
    let sums = start_sums parts (sum_below (length patients) (λ k. get_or patients k 0 * unit / parts))
    (sum_below (length patients) (λ k. get_or patients k 0 * unit)) (length patients) pos weights
    (sum_floors_under (length patients) parts (λ k. get_or patients k 0 * unit))
    (sum_floors_over (length patients) parts (λ k. get_or patients k 0 * unit) pos) few in
    record {
      same_length = len;
      within = omega (arith, places, sums.0);
      nearly = omega (arith, places, sums.1);
      below = λ x l.
          let total : sum (thinned_by 1 1 patients) ≡ parts
          = total_is 1 1 (length patients - 1) patients (omega arith) e ∙ rw (whole, one_pow (length patients - 1)) (omega arith) in
          let number : get_or (map (λ c. c * unit / parts) patients) x 0 ≡ get_or patients x 0 * unit / parts
          = get_or-map (λ c. c * unit / parts) patients x 0 0 l in
          joined _ _ _ _ _ _ number total (sym (thinned_by_certain patients x l)) (floor_under (get_or patients x 0 * unit) parts);
    }

-- ---- each age

pub presence_within : (parts : ℕ) (stays : List ℕ) (n : ℕ) → presence parts stays n ≤ parts ^ n
presence_within parts stays zero = rw pow-zero (omega arith)
presence_within parts stays (suc n) = rw pow-suc (mul-le-mul (presence_within parts stays n) (omega arith))

pub kept_follows : (b : BlockView) (n : ℕ) → 0 < b.parts → 1 ≤ length b.patients → length b.patients ≤ 17 → sum b.patients ≡ b.parts →
    Follows b.parts b.patients (presence b.parts b.stays n) (b.parts ^ n) (17 + 169 * n) (kept_at_age b n)
kept_follows b zero pos some few whole = rw (pow-zero b.parts) (start_follows b.parts b.patients pos some few whole)
kept_follows b (suc n) pos some few whole =
    let more : 17 + 169 * suc n ≡ 17 + 169 * n + 169 = omega arith in
    rw (pow-suc b.parts n, more)
    (thinned_follows b.parts (presence b.parts b.stays n) (b.parts ^ n) (b.parts - get_or b.stays n 0) (17 + 169 * n) b.patients (kept_at_age b n)
    pos (presence_within b.parts b.stays n) (omega arith) some few (kept_follows b n pos some few whole))
