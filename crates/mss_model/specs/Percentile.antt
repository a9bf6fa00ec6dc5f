-- Cumulative weights, percentiles and means of distributions.
use Rattle.std.specs.Prelude.{ℕ, zero, suc, ◌+◌, ◌-◌, ◌*◌, ◌^◌, Bool, cond, List, [], ◌∷◌, length, sum, take, nat_le}
use Rattle.mss_model.specs.declared.limits.TheConstants.{WHOLE_LEVEL}

-- the weight of the outcomes up to x
abbrev pub cumulative : List ℕ → ℕ → ℕ
cumulative e x = sum (take (x + 1) e)

-- the least number below n that passes, or n where none does
abbrev pub least : ℕ → (ℕ → Bool) → ℕ
least zero test = 0
least (suc n) test = cond (test 0) 0 (suc (least n (λ x. test (suc x))))

-- The percentile at the level a / b: the least outcome up to which the weights are at least a / b of all.
abbrev pub percentile : List ℕ → ℕ → ℕ → ℕ
percentile e a b = least (length e) (λ x. nat_le (a * sum e) (cumulative e x * b))

-- the percentile at so many millionths
abbrev pub percentile_at : List ℕ → ℕ → ℕ
percentile_at e level = percentile e level WHOLE_LEVEL

-- the percentiles at a level that is 2^-30 lower, and 2^-30 higher
abbrev pub percentile_below : List ℕ → ℕ → ℕ
percentile_below e level = percentile e (level * 2 ^ 30 - WHOLE_LEVEL) (WHOLE_LEVEL * 2 ^ 30)

abbrev pub percentile_above : List ℕ → ℕ → ℕ
percentile_above e level = percentile e (level * 2 ^ 30 + WHOLE_LEVEL) (WHOLE_LEVEL * 2 ^ 30)

-- The sum of x * weight of x, which is the mean times the sum of the weights: each later outcome counts once more.
abbrev pub moment : List ℕ → ℕ
moment [] = 0
moment (x ∷ xs) = moment xs + sum xs
