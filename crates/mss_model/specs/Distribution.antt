-- Distributions of counts, and their sum.
--
-- A distribution is the list of the weights of the outcomes 0, 1, 2 and so on. Weights are whole numbers, not all 0,
-- and the chance of an outcome is its weight over the sum of all.
use Rattle.std.specs.Prelude.{ℕ, ◌+◌, ◌*◌, ◌-◌, List, [], ◌∷◌, map, length, slice_index}
use Rattle.std.specs.List.{range_with_len}
use Rattle.mss_model.specs.Sums.{sum_below}

-- The weight with which two counts, apart from each other, are x together: k from the first and the rest from the
-- second, for each k. This is the convolution of the two lists.
abbrev pub convolution_weight : List ℕ → List ℕ → ℕ → ℕ
convolution_weight a b x = sum_below (x + 1) (λ k. slice_index a k * slice_index b (x - k))

-- the distribution of the sum of two counts
abbrev pub convolution : List ℕ → List ℕ → List ℕ
convolution a b = map (convolution_weight a b) (range_with_len 0 (length a + length b - 1))

-- the distribution of the sum of many counts; the sum of none is 0
abbrev pub convolution_all : List (List ℕ) → List ℕ
convolution_all [] = 1 ∷ []
convolution_all (b ∷ rest) = convolution b (convolution_all rest)
