-- The largest of some values: a search for peaks keeps to these.
use Rattle.std.proofs.Common.{◌≡◌, ℕ, ◌<◌, ◌≤◌, zero, suc, ap, arith, inl, inr}
use Rattle.std.proofs.lemmas.Bool.{cases_lt}
use Rattle.mss_model.specs.Peak.{largest_below}

-- each value is at most the largest
pub largest-at-least : (n : ℕ) (f : ℕ → ℕ) (k : ℕ) → k < n → f k ≤ largest_below n f
largest-at-least zero f k h = absurd (omega arith)
largest-at-least (suc n) f k h = elim (cases_lt k n) [
  | inl lt ↦ omega (arith, largest-at-least n f k lt)
  | inr ge ↦ let e : k ≡ n = omega arith in omega (arith, ap f e)
]

-- and what bounds each value bounds the largest
pub largest-at-most : (n : ℕ) (f : ℕ → ℕ) (m : ℕ) → ((k : ℕ) → k < n → f k ≤ m) → largest_below n f ≤ m
largest-at-most zero f m h = omega arith
largest-at-most (suc n) f m h = omega (arith, h n (omega arith), largest-at-most n f m (λ k l. h k (omega arith)))

-- greater values have a greater largest
pub largest-le : (n : ℕ) (f g : ℕ → ℕ) → ((k : ℕ) → k < n → f k ≤ g k) → largest_below n f ≤ largest_below n g
largest-le zero f g h = omega arith
largest-le (suc n) f g h = omega (arith, h n (omega arith), largest-le n f g (λ k l. h k (omega arith)))
