-- Where the inequality between the prices holds, every legal cycle peaks above x.
use Rattle.std.proofs.Common.{◌≡◌, ℕ, ◌+◌, ◌-◌, ◌*◌, ◌^◌, ◌<◌, ◌≤◌, true, false, nat_lt, List, arith, inl, inr, mul-le-mul_left, le_trans}
use Rattle.std.specs.Prelude.{if◌then◌else◌}
use Rattle.std.proofs.lemmas.Bool.{cases_Bool, cases_lt, le-ltb}
use Rattle.mss_model.specs.declared.parts.TableParts.{TableParts}
use Rattle.mss_model.specs.Limits.{IsTables}
use Rattle.mss_model.specs.Sums.{sum_below}
use Rattle.mss_model.specs.TableWords.{specialty_count, ward_count, is_watched, allow_at}
use Rattle.mss_model.specs.Percentile.{percentile}
use Rattle.mss_model.specs.Census.{census}
use Rattle.mss_model.specs.Peak.{beds_taken, ward_peak, peak}
use Rattle.mss_model.specs.Legality.{IsLegal}
use Rattle.mss_model.proofs.Largest.{largest-at-least}
use Rattle.mss_model.proofs.RangeSums.{sum_below_le, sum_below_scale, sum_below_add}
use Rattle.mss_weights.specs.Loads.{load_from, load_limit}
use Rattle.mss_weights.specs.Prices.{Prices, block_count, ward_places, all_places, limits_cost, worth, spent}
use Rattle.mss_weights.proofs.LightSums.{heavy}
use Rattle.mss_weights.proofs.WardLoads.{AllWeigh, census-positive, census-weighs}
use Rattle.mss_weights.proofs.Duality.{loads_cost, weak-duality}

-- the beds that are taken at a place are at most the peak
beds-at_most : (t : TableParts) (c : List ℕ) (a b k j : ℕ) → k < ward_count t → j < t.days → is_watched t (k + 1) ≡ true
    → beds_taken t c a b (k + 1) (j + 1) ≤ peak t c a b
beds-at_most t c a b k j kl jl on =
    le_trans (largest-at-least t.days (λ d. beds_taken t c a b (k + 1) (d + 1)) j jl)
    (let w = largest-at-least (ward_count t) (λ w. if is_watched t (w + 1) then ward_peak t c a b (w + 1) else 0) k kl in rw on at w)

-- loads that are all below the number of their ward, at the places that have a price
loads-low : (weight : ℕ → ℕ → ℕ) (t : TableParts) (prices : Prices) (c : List ℕ) (most : ℕ → ℕ)
    → ((w d : ℕ) → w < ward_count t → d < t.days → prices.place (w + 1) (d + 1) * load_from weight t (w + 1) (d + 1) 0 c + prices.place (w + 1) (d + 1) ≤ prices.place (w + 1) (d + 1) * most (w + 1))
    → loads_cost weight t prices c + all_places t prices ≤ sum_below (ward_count t) (λ w. ward_places t prices (w + 1) * most (w + 1))
loads-low weight t prices c most low =
    let y : ℕ → ℕ → ℕ = λ w d. prices.place (w + 1) (d + 1) in
    let v : ℕ → ℕ → ℕ = λ w d. prices.place (w + 1) (d + 1) * load_from weight t (w + 1) (d + 1) 0 c in
    let both : sum_below (ward_count t) (λ w. sum_below t.days (v w) + sum_below t.days (y w)) ≡ loads_cost weight t prices c + all_places t prices
    = sum_below_add (ward_count t) (λ w. sum_below t.days (v w)) (λ w. sum_below t.days (y w)) in
    let each : sum_below (ward_count t) (λ w. sum_below t.days (v w) + sum_below t.days (y w)) ≤ sum_below (ward_count t) (λ w. ward_places t prices (w + 1) * most (w + 1))
    = sum_below_le (ward_count t) _ _ (λ w wl.
    let inner : sum_below t.days (λ d. v w d + y w d) ≤ sum_below t.days (λ d. most (w + 1) * y w d) = sum_below_le t.days _ _ (λ d dl. omega (arith, low w d wl dl)) in
    omega (arith, inner, sum_below_add t.days (v w) (y w), sum_below_scale t.days (most (w + 1)) (y w))) in
    omega (arith, both, each)

-- what shows that every legal cycle peaks above x
pub record Shows (b d s reach x : ℕ) (t : TableParts) (weight : ℕ → ℕ → ℕ) (needed : ℕ → ℕ) (prices : Prices) : Type 0 where
  pub b_positive : 0 < b
  pub d_positive : 0 < d
  pub below_one : b ≤ d
  pub level : t.level ≤ 1000000
  pub reaches : b ^ reach * 1000000 < t.level * d ^ reach
  pub blocks : AllWeigh b d (b ^ s) (d ^ s) t weight
  pub needs : (c : List ℕ) → IsLegal t c → (j : ℕ) → 0 < j → j ≤ specialty_count t → needed j ≤ block_count c j
  pub unwatched : (w d : ℕ) → is_watched t (w + 1) ≡ false → prices.place (w + 1) d ≡ 0
  pub pays : limits_cost t prices s reach x + spent weight t prices < worth t needed prices + all_places t prices

pub peak-above : (b d s reach x : ℕ) (t : TableParts) (weight : ℕ → ℕ → ℕ) (needed : ℕ → ℕ) (prices : Prices) (c : List ℕ)
    → IsTables t → Shows b d s reach x t weight needed prices → IsLegal t c → x < peak t c t.level 1000000
peak-above b d s reach x t weight needed prices c good h legal = elim (cases_lt x (peak t c t.level 1000000)) [
  | inl above ↦ above
  | inr low ↦ absurd (omega (
    arith,
    h.pays,
    weak-duality weight t prices c good legal needed (h.needs c legal),
    loads-low weight t prices c (load_limit t s reach x) (λ w q wl ql. at_place low w q wl ql),
  ))
]
  where
    within : peak t c t.level 1000000 ≤ x → (w q : ℕ) → w < ward_count t → q < t.days → is_watched t (w + 1) ≡ true
        → nat_lt x (allow_at t (w + 1)) ≡ false
    within low w q wl ql on = le-ltb x (allow_at t (w + 1)) (omega (arith, low, beds-at_most t c t.level 1000000 w q wl ql on))

    at_place : peak t c t.level 1000000 ≤ x → (w q : ℕ) → w < ward_count t → q < t.days
        → prices.place (w + 1) (q + 1) * load_from weight t (w + 1) (q + 1) 0 c + prices.place (w + 1) (q + 1) ≤ prices.place (w + 1) (q + 1) * load_limit t s reach x (w + 1)
    at_place low w q wl ql = elim (cases_Bool (is_watched t (w + 1))) [
      | inr off ↦ rw (h.unwatched w (q + 1) off) (omega arith)
      | inl on ↦ rw (within low w q wl ql on) (elim (cases_lt (load_from weight t (w + 1) (q + 1) 0 c) (s * (x - allow_at t (w + 1)) + reach)) [
        | inl lt ↦ omega (arith, mul-le-mul_left (prices.place (w + 1) (q + 1)) lt)
        | inr ge ↦
            let over : x - allow_at t (w + 1) < percentile (census t (w + 1) (q + 1) c) t.level 1000000
            = heavy b d s (x - allow_at t (w + 1)) reach t.level 1000000 (load_from weight t (w + 1) (q + 1) 0 c) (census t (w + 1) (q + 1) c) h.b_positive h.d_positive h.below_one h.level
            (census-positive t (w + 1) (q + 1) c good (omega arith)) h.reaches (census-weighs b d (b ^ s) (d ^ s) t weight (w + 1) (q + 1) c good (omega arith) h.blocks legal.known) ge in
            absurd (omega (arith, low, over, beds-at_most t c t.level 1000000 w q wl ql on))
      ])
    ]
