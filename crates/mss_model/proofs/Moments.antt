-- The sum of x * weight of x, which is the mean times the sum of the weights.
use Rattle.std.proofs.Common.{◌≡◌, ℕ, ◌+◌, ◌*◌, ◌≤◌, ◌<◌, zero, suc, refl, arith, List, [], ◌∷◌, length, sum, mul-le-mul_left, take, add-one}
use Rattle.std.proofs.lemmas.List.Sums.{sum_by_more}
use Rattle.mss_model.specs.Percentile.{moment}
use Rattle.mss_model.proofs.ListsAsFunctions.{at, sum-cons}
use Rattle.mss_model.proofs.CumulativeWeights.{sum-le}

-- the sum of x * weight of x of a list is at most that of a list with greater weights
pub moment-le : (a e : List ℕ) (t u : ℕ) → length a ≡ length e → ((x : ℕ) → at a x * t ≤ at e x * u) → moment a * t ≤ moment e * u
moment-le [] e t u n h = omega arith
moment-le (x ∷ xs) [] t u n h = absurd (omega (arith, n))
moment-le (x ∷ xs) (y ∷ ys) t u n h = omega (arith, moment-le xs ys t u (omega (arith, n)) (λ k. h (suc k)), sum-le xs ys t u (omega (arith, n)) (λ k. h (suc k)))

moment-nil : (xs : List ℕ) → length xs ≡ 0 → moment xs ≡ 0
moment-nil [] h = refl
moment-nil (x ∷ xs) h = absurd (omega (arith, h))

sum-nil : (xs : List ℕ) → length xs ≡ 0 → sum xs ≡ 0
sum-nil [] h = refl
sum-nil (x ∷ xs) h = absurd (omega (arith, h))

-- and what it lacks is at most what the sum lacks, at the last place
pub moment-lacks : (a e : List ℕ) (t u m : ℕ) → length a ≡ length e → length a ≤ m + 1 → ((x : ℕ) → at a x * t ≤ at e x * u)
    → moment e * u + m * (sum a * t) ≤ moment a * t + m * (sum e * u)
moment-lacks [] [] t u m n l h = omega arith
moment-lacks [] (y ∷ ys) t u m n l h = absurd (omega (arith, n))
moment-lacks (x ∷ xs) [] t u m n l h = absurd (omega (arith, n))
moment-lacks (x ∷ xs) (y ∷ ys) t u zero n l h =
    rw (moment-nil xs (omega arith), moment-nil ys (omega (arith, n)), sum-nil xs (omega arith), sum-nil ys (omega (arith, n))) (omega arith)
moment-lacks (x ∷ xs) (y ∷ ys) t u (suc m) n l h = rw (sum-cons x xs, sum-cons y ys) (omega (
  arith,
  moment-lacks xs ys t u m (omega (arith, n)) (omega arith) (λ k. h (suc k)),
  mul-le-mul_left (suc m) (h 0),
))

-- one outcome more
pub moment-more : (e : List ℕ) (x : ℕ) → x < length e → moment (take (suc x) e) ≡ moment (take x e) + x * at e x
moment-more [] x h = absurd (omega arith)
moment-more (w ∷ ws) zero h = omega arith
moment-more (w ∷ ws) (suc x) h = omega (arith, moment-more ws x (omega arith), sum_by_suc ws x (omega arith))
  where
    sum_by_suc : (e : List ℕ) (x : ℕ) → x < length e → sum (take (suc x) e) ≡ sum (take x e) + at e x
    sum_by_suc e x h = rw (← add-one) (sum_by_more (λ y. y) e x 0 h)

-- at most the last outcome times the sum
pub moment-most : (e : List ℕ) (m : ℕ) → length e ≤ m + 1 → moment e ≤ m * sum e
moment-most [] m h = omega arith
moment-most (w ∷ ws) zero h = rw (moment-nil ws (omega arith), sum-nil ws (omega arith)) (omega arith)
moment-most (w ∷ ws) (suc m) h = rw (sum-cons w ws) (omega (arith, moment-most ws m (omega arith)))
