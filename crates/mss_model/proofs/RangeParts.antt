-- Sums over a range of numbers that is longer, cut in two, or cut in rows.
use Rattle.std.proofs.Common.{◌≡◌, ℕ, zero, suc, ◌+◌, ◌*◌, ◌/◌, ◌<◌, ◌≤◌, ap, arith, inl, inr, add-zero, add-suc, mul_comm, mul-le-mul_left, le_refl}
use Rattle.std.proofs.lemmas.Bool.{cases_lt}
use Rattle.mss_model.specs.Sums.{sum_below}

pub sum_below_longer : (m d : ℕ) (f : ℕ → ℕ) → sum_below m f ≤ sum_below (d + m) f
sum_below_longer m zero f = let s : 0 + m ≡ m = omega arith in rw s (le_refl (sum_below m f))
sum_below_longer m (suc d) f = let s : suc d + m ≡ suc (d + m) = omega arith in rw s (omega (arith, sum_below_longer m d f))

-- the range cut in two
pub sum_below_split : (m n : ℕ) (f : ℕ → ℕ) → sum_below (m + n) f ≡ sum_below m f + sum_below n (λ k. f (m + k))
sum_below_split m zero f = rw add-zero (omega arith)
sum_below_split m (suc n) f = rw add-suc (omega (arith, sum_below_split m n f))

pub sum_below_same : (n c : ℕ) (f : ℕ → ℕ) → ((k : ℕ) → k < n → f k ≡ c) → sum_below n f ≡ n * c
sum_below_same zero c f h = omega arith
sum_below_same (suc n) c f h = omega (arith, h n (omega arith), sum_below_same n c f (λ k l. h k (omega arith)))

-- of numbers in rows of r, row q comes after q rows
pub quotient : (q r k : ℕ) → k < r → (q * r + k) / r ≡ q
quotient q r k l = elim (cases_lt ((q * r + k) / r) q) [
  | inl lt ↦ let m : r * ((q * r + k) / r + 1) ≤ r * q = mul-le-mul_left r (omega arith) in absurd (omega (arith, mul_comm q r))
  | inr ge ↦ elim (cases_lt q ((q * r + k) / r)) [
    | inl gt ↦ let m : r * (q + 1) ≤ r * ((q * r + k) / r) = mul-le-mul_left r (omega arith) in absurd (omega (arith, mul_comm q r))
    | inr le ↦ omega arith
  ]
]

-- rows of the same number of members each
pub sum_below_rows : (r q : ℕ) (g : ℕ → ℕ) → sum_below (q * r) (λ s. g (s / r)) ≡ r * sum_below q g
sum_below_rows r zero g = let z : 0 * r ≡ 0 = omega arith in rw z (omega arith)
sum_below_rows r (suc q) g =
    let e : suc q * r ≡ q * r + r = omega arith in
    rw (e, sum_below_split (q * r) r (λ s. g (s / r)))
    (omega (arith, sum_below_rows r q g, sum_below_same r (g q) (λ k. g ((q * r + k) / r)) (λ k l. ap g (quotient q r k l))))
