-- Cumulative weights of lists and of sums, at any two scales t and u.
use Rattle.std.proofs.Common.{◌≡◌, ℕ, ◌+◌, ◌*◌, ◌≤◌, ◌<◌, zero, suc, refl, ◌∙◌, arith, List, [], ◌∷◌, length, sum, take_all, le_refl}
use Rattle.std.proofs.lemmas.List.Sums.{sum_by-take-le}
use Rattle.mss_model.specs.Distribution.{convolution}
use Rattle.mss_model.specs.Percentile.{cumulative}
use Rattle.mss_model.proofs.Convolution.{conv, one, conv-same_left}
use Rattle.mss_model.proofs.ListsAsFunctions.{at, sum-cons, cumulative-nil, cumulative-cons, cumulative-conv, at-convolution}

pub cumulative-le-sum : (e : List ℕ) (x : ℕ) → cumulative e x ≤ sum e
cumulative-le-sum e x = sum_by-take-le (λ y. y) e (x + 1)

-- the cumulative weights of a sum of two distributions
pub cumulative-convolution : (a b : List ℕ) → 0 < length a → 0 < length b → (x : ℕ) → cumulative (convolution a b) x ≡ conv (conv (at a) (at b)) one x
cumulative-convolution a b ha hb x = cumulative-conv (convolution a b) x ∙ conv-same_left (at (convolution a b)) (conv (at a) (at b)) one x (at-convolution a b ha hb)

-- smaller weights have a smaller sum
pub sum-le : (a e : List ℕ) (t u : ℕ) → length a ≡ length e → ((x : ℕ) → at a x * t ≤ at e x * u) → sum a * t ≤ sum e * u
sum-le [] e t u n h = omega arith
sum-le (x ∷ xs) [] t u n h = absurd (omega (arith, n))
sum-le (x ∷ xs) (y ∷ ys) t u n h = rw (sum-cons x xs, sum-cons y ys) (omega (arith, h 0, sum-le xs ys t u (omega (arith, n)) (λ k. h (suc k))))

-- and smaller cumulative weights
pub cumulative-le : (a e : List ℕ) (t u : ℕ) → length a ≡ length e → ((x : ℕ) → at a x * t ≤ at e x * u) → (x : ℕ) → cumulative a x * t ≤ cumulative e x * u
cumulative-le [] [] t u n h x = rw (cumulative-nil x) (omega arith)
cumulative-le [] (y ∷ ys) t u n h x = absurd (omega (arith, n))
cumulative-le (x ∷ xs) [] t u n h i = absurd (omega (arith, n))
cumulative-le (x ∷ xs) (y ∷ ys) t u n h zero = omega (arith, h 0)
cumulative-le (x ∷ xs) (y ∷ ys) t u n h (suc i) = rw (cumulative-cons x xs i, cumulative-cons y ys i) (omega (arith, h 0, cumulative-le xs ys t u (omega (arith, n)) (λ k. h (suc k)) i))

-- what lies behind x is as small
pub behind : (a e : List ℕ) (t u : ℕ) → length a ≡ length e → ((x : ℕ) → at a x * t ≤ at e x * u) → (x : ℕ)
    → sum a * t + cumulative e x * u ≤ cumulative a x * t + sum e * u
behind [] [] t u n h x = rw (cumulative-nil x) (omega arith)
behind [] (y ∷ ys) t u n h x = absurd (omega (arith, n))
behind (x ∷ xs) [] t u n h i = absurd (omega (arith, n))
behind (x ∷ xs) (y ∷ ys) t u n h zero = rw (sum-cons x xs, sum-cons y ys) (omega (arith, sum-le xs ys t u (omega (arith, n)) (λ k. h (suc k))))
behind (x ∷ xs) (y ∷ ys) t u n h (suc i) =
    rw (sum-cons x xs, sum-cons y ys, cumulative-cons x xs i, cumulative-cons y ys i) (omega (arith, behind xs ys t u (omega (arith, n)) (λ k. h (suc k)) i))

-- as convolutions with ones
pub sum-fits : (b : List ℕ) (m : ℕ) → sum b ≤ m → (x : ℕ) → conv (at b) one x ≤ m
sum-fits b m h x = omega (arith, cumulative-conv b x, cumulative-le-sum b x)

pub conv-cumulative : (e : List ℕ) (t : ℕ) (x : ℕ) → conv (at e) one x * t ≡ cumulative e x * t
conv-cumulative e t x = rw (cumulative-conv e x) refl

-- the last cumulative weight is the sum
pub cumulative-all : (e : List ℕ) → cumulative e (length e) ≡ sum e
cumulative-all e = rw (take_all (length e + 1) e (omega arith)) refl

-- cumulative weights grow
pub cumulative-le-cumulative : (e : List ℕ) (y x : ℕ) → y ≤ x → cumulative e y ≤ cumulative e x
cumulative-le-cumulative [] y x h = rw (cumulative-nil y) (omega arith)
cumulative-le-cumulative (w ∷ ws) zero zero h = le_refl (cumulative (w ∷ ws) 0)
cumulative-le-cumulative (w ∷ ws) zero (suc x) h = omega (arith, cumulative-cons w ws x)
cumulative-le-cumulative (w ∷ ws) (suc y) zero h = absurd (omega arith)
cumulative-le-cumulative (w ∷ ws) (suc y) (suc x) h = rw (cumulative-cons w ws y, cumulative-cons w ws x) (omega (arith, cumulative-le-cumulative ws y x (omega arith)))
