-- Binomial thinning: each of some patients is still there with the same chance, apart from the others.
use Rattle.std.specs.Prelude.{ℕ, zero, suc, ◌+◌, ◌-◌, ◌*◌, ◌^◌, List, slice_index, map, length}
use Rattle.std.specs.List.{range_with_len}
use Rattle.mss_model.specs.Sums.{sum_below}

-- The weight with which x of k patients are there, each with the chance p / d. All weights together are d ^ k.
abbrev pub thinning_weight : ℕ → ℕ → ℕ → ℕ → ℕ
thinning_weight p d zero zero = 1
thinning_weight p d zero (suc x) = 0
thinning_weight p d (suc k) zero = (d - p) * thinning_weight p d k zero
thinning_weight p d (suc k) (suc x) = p * thinning_weight p d k x + (d - p) * thinning_weight p d k (suc x)

-- The weight of x patients who are there, where `counts` has the weight of each count up to `most`. The powers of d
-- bring the counts to one denominator.
abbrev pub thinned_weight : ℕ → ℕ → ℕ → List ℕ → ℕ → ℕ
thinned_weight p d most counts x = sum_below (most + 1) (λ k. slice_index counts k * thinning_weight p d k x * d ^ (most - k))

-- The distribution of those who are there, each with the chance p / d, where `counts` is that of all.
abbrev pub thinned_by : ℕ → ℕ → List ℕ → List ℕ
thinned_by p d counts = map (thinned_weight p d (length counts - 1) counts) (range_with_len 0 (length counts))
