-- The stochastic order of distributions: kept by sums, and percentiles follow it.
use Rattle.std.proofs.Common.{ℕ, ◌*◌, ◌≤◌, ◌<◌, zero, suc, ◌∙◌, arith, List, length, sum, mul-pos, mul-le-mul_left, mul-le-mul_right, le_of_mul-le-mul_right, le_refl, nat_le, le-leb, leb-true}
use Rattle.mss_model.specs.Distribution.{convolution}
use Rattle.mss_model.specs.Percentile.{cumulative, percentile}
use Rattle.mss_model.proofs.Convolution.{conv, one, conv-change, conv-exchange}
use Rattle.mss_model.proofs.ListsAsFunctions.{at, cumulative-conv, sum-convolution}
use Rattle.mss_model.proofs.ConvolutionSums.{nonempty}
use Rattle.mss_model.proofs.LeastNumber.{least-le-longer}
use Rattle.mss_model.proofs.CumulativeWeights.{cumulative-convolution, conv-cumulative, sum-fits, cumulative-le-cumulative}

-- d lies stochastically at or below e: its cumulative chances are at least those of e
pub record AtOrBelow (d e : List ℕ) : Type 0 where
  pub d_positive : 0 < sum d
  pub e_positive : 0 < sum e
  pub more : (x : ℕ) → cumulative e x * sum d ≤ cumulative d x * sum e

conv-le-top : (f g : ℕ → ℕ) (m i : ℕ) → ((y : ℕ) → y ≤ i → g y ≤ m) → conv f g i ≤ conv f one i * m
conv-le-top f g m zero h = omega (arith, mul-le-mul_left (f 0) (h 0 (omega arith)))
conv-le-top f g m (suc i) h = omega (arith, mul-le-mul_left (f 0) (h (suc i) (omega arith)), conv-le-top (λ k. f (suc k)) g m i (λ y l. h y (omega arith)))

-- the order is kept by a sum with one distribution (on the right)
pub below-convolution : (d e f : List ℕ) → AtOrBelow d e → 0 < sum f → AtOrBelow (convolution d f) (convolution e f)
below-convolution d e f h pf =
    let nd : 0 < length d = nonempty d h.d_positive in
    let ne : 0 < length e = nonempty e h.e_positive in
    let nf : 0 < length f = nonempty f pf in
    record {
      d_positive = rw (sum-convolution d f nd nf) (mul-pos h.d_positive pf);
      e_positive = rw (sum-convolution e f ne nf) (mul-pos h.e_positive pf);
      more = λ x. rw (
        sum-convolution d f nd nf,
        sum-convolution e f ne nf,
        cumulative-convolution d f nd nf x ∙ conv-exchange (at d) (at f) one x,
        cumulative-convolution e f ne nf x ∙ conv-exchange (at e) (at f) one x,
      )
          (omega (
            arith,
            mul-le-mul_right (sum f) (conv-change (at f) (conv (at e) one) (conv (at d) one) (sum d) (sum e) 0 (sum f)
                (λ y. omega (arith, h.more y, conv-cumulative e (sum d) y, conv-cumulative d (sum e) y))
                (sum-fits f (sum f) (le_refl (sum f))) x),
          ));
    }

-- a part lies at or below the sum
pub below-part : (e f : List ℕ) → 0 < sum e → 0 < sum f → AtOrBelow e (convolution e f)
below-part e f pe pf =
    let ne : 0 < length e = nonempty e pe in
    let nf : 0 < length f = nonempty f pf in
    record {
      d_positive = pe;
      e_positive = rw (sum-convolution e f ne nf) (mul-pos pe pf);
      more = λ x. rw (sum-convolution e f ne nf, cumulative-convolution e f ne nf x ∙ conv-exchange (at e) (at f) one x)
          (omega (arith, part_weighs e f x));
    }
  where
    part_weighs : (e f : List ℕ) (x : ℕ) → conv (at f) (conv (at e) one) x * sum e ≤ cumulative e x * (sum e * sum f)
    part_weighs e f x = omega (
      arith,
      mul-le-mul_right (sum e) (conv-le-top (at f) (conv (at e) one) (cumulative e x) x (λ y l. omega (arith, cumulative-conv e y, cumulative-le-cumulative e y x l))),
      mul-le-mul_right (sum e) (mul-le-mul_right (cumulative e x) (sum-fits f (sum f) (le_refl (sum f)) x)),
    )

-- what lies at or below has no greater percentile
pub percentile-le : (d e : List ℕ) (a b : ℕ) → length d ≤ length e → AtOrBelow d e → percentile d a b ≤ percentile e a b
percentile-le d e a b n h =
    least-le-longer (length d) (length e) (λ x. nat_le (a * sum d) (cumulative d x * b)) (λ x. nat_le (a * sum e) (cumulative e x * b)) n
    (λ x t. le-leb _ _ (le_of_mul-le-mul_right {k = sum e} (omega (arith, mul-le-mul_right (sum d) (leb-true _ _ t), mul-le-mul_right b (h.more x))) h.e_positive))
