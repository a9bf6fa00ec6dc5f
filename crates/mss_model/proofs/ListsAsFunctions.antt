-- Lists of weights as functions of the outcome: the sum of two distributions is a convolution, and cumulative weights
-- are the convolution with ones.
use Rattle.std.proofs.Common.{◌≡◌, ℕ, ◌+◌, ◌*◌, ◌-◌, ◌≤◌, ◌<◌, zero, suc, refl, sym, ◌∙◌, ap, arith, mul-le-mul_left, mul-le-mul_right, le_trans, List, [], ◌∷◌, map, length, get_or, sum, take, add-one, add-zero, add-suc, max, min, inl, inr}
use Rattle.std.proofs.lemmas.Bool.{cases_lt}
use lib.ListN.{get_or-eq_default}
use Rattle.std.proofs.lemmas.List.Sums.{sum_by-cons}
use Rattle.std.proofs.lemmas.List.FromFn.{get_or-map-range_with_len, length-map-range_with_len}
use Rattle.std.proofs.lemmas.Grind.{same_number_lists}
use Rattle.mss_model.specs.Sums.{sum_below}
use Rattle.mss_model.specs.Distribution.{convolution, convolution_weight}
use Rattle.mss_model.specs.Percentile.{cumulative}
use Rattle.mss_model.proofs.Convolution.{conv, one, conv-zero}

abbrev pub at : List ℕ → ℕ → ℕ
at e x = get_or e x 0

pub sum-cons : (x : ℕ) (xs : List ℕ) → sum (x ∷ xs) ≡ x + sum xs
sum-cons x xs = sum_by-cons (λ y. y) x xs

-- the first term apart
pub sum_below-first : (n : ℕ) (f : ℕ → ℕ) → sum_below (suc n) f ≡ f 0 + sum_below n (λ k. f (suc k))
sum_below-first zero f = omega arith
sum_below-first (suc n) f = omega (arith, sum_below-first n f)

pub sum_below-eq : (n : ℕ) (f g : ℕ → ℕ) → ((k : ℕ) → k < n → f k ≡ g k) → sum_below n f ≡ sum_below n g
sum_below-eq zero f g h = refl
sum_below-eq (suc n) f g h = omega (arith, h n (omega arith), sum_below-eq n f g (λ k lt. h k (omega arith)))

pub sum_below-conv : (i : ℕ) (f g : ℕ → ℕ) → sum_below (suc i) (λ k. f k * g (i - k)) ≡ conv f g i
sum_below-conv zero f g = omega arith
sum_below-conv (suc i) f g = omega (
  arith,
  sum_below-first (suc i) (λ k. f k * g (suc i - k)),
  sum_below-eq (suc i) (λ k. f (suc k) * g (suc i - suc k)) (λ k. f (suc k) * g (i - k)) (λ k lt. ap (λ j. f (suc k) * g j) (omega arith)),
  ap (λ j. f 0 * g j) (let e : suc i - 0 ≡ suc i = omega arith in e),
  sum_below-conv i (λ k. f (suc k)) g,
)

-- the weights of a sum inside its length
pub at-convolution_in : (a b : List ℕ) (i : ℕ) → i < length a + length b - 1 → at (convolution a b) i ≡ conv (at a) (at b) i
at-convolution_in a b i h = get_or-map-range_with_len (convolution_weight a b) 0 (length a + length b - 1) i i 0 h (omega arith) ∙ rw (add-one) (sum_below-conv i (at a) (at b))

-- ---- the sum of two distributions as a product of polynomials, for sums and lengths by recursion

abbrev pub plus : List ℕ → List ℕ → List ℕ
plus [] ys = ys
plus (x ∷ xs) [] = x ∷ xs
plus (x ∷ xs) (y ∷ ys) = (x + y) ∷ plus xs ys

abbrev pub poly : List ℕ → List ℕ → List ℕ
poly [] b = []
poly (x ∷ xs) b = plus (map (λ y. x * y) b) (0 ∷ poly xs b)

at-plus : (xs ys : List ℕ) (i : ℕ) → at (plus xs ys) i ≡ at xs i + at ys i
at-plus [] ys i = omega arith
at-plus (x ∷ xs) [] i = omega arith
at-plus (x ∷ xs) (y ∷ ys) zero = refl
at-plus (x ∷ xs) (y ∷ ys) (suc i) = at-plus xs ys i

pub at-scale : (m : ℕ) (xs : List ℕ) (i : ℕ) → at (map (λ y. m * y) xs) i ≡ m * at xs i
at-scale m [] i = omega arith
at-scale m (x ∷ xs) zero = refl
at-scale m (x ∷ xs) (suc i) = at-scale m xs i

pub at-poly : (a b : List ℕ) (i : ℕ) → at (poly a b) i ≡ conv (at a) (at b) i
at-poly [] b i = sym (conv-zero (at b) i)
at-poly (x ∷ xs) b zero = omega (arith, at-plus (map (λ y. x * y) b) (0 ∷ poly xs b) 0, at-scale x b 0)
at-poly (x ∷ xs) b (suc i) = omega (arith, at-plus (map (λ y. x * y) b) (0 ∷ poly xs b) (suc i), at-scale x b (suc i), at-poly xs b i)

sum-plus : (xs ys : List ℕ) → sum (plus xs ys) ≡ sum xs + sum ys
sum-plus [] ys = omega arith
sum-plus (x ∷ xs) [] = omega arith
sum-plus (x ∷ xs) (y ∷ ys) = omega (arith, sum-cons (x + y) (plus xs ys), sum-cons x xs, sum-cons y ys, sum-plus xs ys)

sum-scale : (m : ℕ) (xs : List ℕ) → sum (map (λ y. m * y) xs) ≡ m * sum xs
sum-scale m [] = omega arith
sum-scale m (x ∷ xs) =
    let e : sum (map (λ y. m * y) (x ∷ xs)) ≡ m * x + sum (map (λ y. m * y) xs) = sum-cons (m * x) (map (λ y. m * y) xs) in
    e ∙ rw (sum-cons x xs) (omega (arith, sum-scale m xs))

sum-poly : (a b : List ℕ) → sum (poly a b) ≡ sum a * sum b
sum-poly [] b = omega arith
sum-poly (x ∷ xs) b = rw (sum-cons x xs) (omega (arith, sum-plus (map (λ y. x * y) b) (0 ∷ poly xs b), sum-scale x b, sum-cons 0 (poly xs b), sum-poly xs b))

length-plus : (xs ys : List ℕ) → length (plus xs ys) ≡ max (length xs) (length ys)
length-plus [] ys = omega arith
length-plus (x ∷ xs) [] = omega arith
length-plus (x ∷ xs) (y ∷ ys) = omega (arith, length-plus xs ys)

length-scale : (m : ℕ) (xs : List ℕ) → length (map (λ y. m * y) xs) ≡ length xs
length-scale m [] = refl
length-scale m (x ∷ xs) = omega (arith, length-scale m xs)

length-poly : (x : ℕ) (xs b : List ℕ) → 0 < length b → length (poly (x ∷ xs) b) ≡ length xs + length b
length-poly x [] b h = omega (arith, length-plus (map (λ y. x * y) b) (0 ∷ []), length-scale x b)
length-poly x (z ∷ zs) b h = omega (arith, length-plus (map (λ y. x * y) b) (0 ∷ poly (z ∷ zs) b), length-scale x b, length-poly z zs b h)

pub length-convolution : (a b : List ℕ) → length (convolution a b) ≡ length a + length b - 1
length-convolution a b = length-map-range_with_len (convolution_weight a b) 0 (length a + length b - 1)

pub convolution-poly : (a b : List ℕ) → 0 < length a → 0 < length b → convolution a b ≡ poly a b
convolution-poly [] b ha hb = absurd (omega arith)
convolution-poly (x ∷ xs) b ha hb =
    let n : length (convolution (x ∷ xs) b) ≡ length (poly (x ∷ xs) b) = omega (arith, length-convolution (x ∷ xs) b, length-poly x xs b hb) in
    same_number_lists (convolution (x ∷ xs) b) (poly (x ∷ xs) b) n
    (λ k lt. at-convolution_in (x ∷ xs) b k (omega (arith, length-convolution (x ∷ xs) b)) ∙ sym (at-poly (x ∷ xs) b k))

pub sum-convolution : (a b : List ℕ) → 0 < length a → 0 < length b → sum (convolution a b) ≡ sum a * sum b
sum-convolution a b ha hb = rw (convolution-poly a b ha hb) (sum-poly a b)

pub at-convolution : (a b : List ℕ) → 0 < length a → 0 < length b → (i : ℕ) → at (convolution a b) i ≡ conv (at a) (at b) i
at-convolution a b ha hb i = rw (convolution-poly a b ha hb) (at-poly a b i)

-- cumulative sums are a convolution with ones
pub cumulative-nil : (i : ℕ) → cumulative [] i ≡ 0
cumulative-nil i = rw add-one refl

pub cumulative-cons : (x : ℕ) (xs : List ℕ) (i : ℕ) → cumulative (x ∷ xs) (suc i) ≡ x + cumulative xs i
cumulative-cons x xs i = rw (add-one, add-one) (sum-cons x (take (suc i) xs))

pub cumulative-conv : (e : List ℕ) (i : ℕ) → cumulative e i ≡ conv (at e) one i
cumulative-conv [] i = rw (add-one) (sym (conv-zero one i))
cumulative-conv (x ∷ xs) zero = omega arith
cumulative-conv (x ∷ xs) (suc i) = omega (arith, cumulative-cons x xs i, cumulative-conv xs i)

-- ---- a part of a weight, as a loop counts it

pub sum_below-none : (n : ℕ) (f : ℕ → ℕ) → ((k : ℕ) → k < n → f k ≡ 0) → sum_below n f ≡ 0
sum_below-none zero f h = refl
sum_below-none (suc n) f h = omega (arith, h n (omega arith), sum_below-none n f (λ k lt. h k (omega arith)))

pub sum_below-stop : (m d : ℕ) (f : ℕ → ℕ) → ((k : ℕ) → m ≤ k → f k ≡ 0) → sum_below (m + d) f ≡ sum_below m f
sum_below-stop m zero f h = rw add-zero refl
sum_below-stop m (suc d) f h = rw add-suc (omega (arith, h (m + d) (omega arith), sum_below-stop m d f h))

-- nothing of b is left that far
pub ways-start : (a b : List ℕ) (i n : ℕ) → n ≤ i + 1 - length b → sum_below n (λ j. at a j * at b (i - j)) ≡ 0
ways-start a b i n h = sum_below-none n (λ j. at a j * at b (i - j)) (λ k lt. rw (get_or-eq_default b 0 {n = i - k} (omega arith)) (omega arith))

-- a has no more
pub ways-end : (a b : List ℕ) (i n : ℕ) → n ≡ min (length a) (i + 1) → sum_below (i + 1) (λ j. at a j * at b (i - j)) ≡ sum_below n (λ j. at a j * at b (i - j))
ways-end a b i n h = elim (cases_lt (i + 1) (length a)) [
  | inl lt ↦ let e : i + 1 ≡ n = omega arith in ap (λ m. sum_below m (λ j. at a j * at b (i - j))) e
  | inr le ↦ let e : i + 1 ≡ n + (i + 1 - n) = omega arith in
      ap (λ m. sum_below m (λ j. at a j * at b (i - j))) e
      ∙ sum_below-stop n (i + 1 - n) (λ j. at a j * at b (i - j)) (λ k lk. rw (get_or-eq_default a 0 {n = k} (omega arith)) (omega arith))
]

pub at-le-sum : (b : List ℕ) (x : ℕ) → at b x ≤ sum b
at-le-sum [] x = omega arith
at-le-sum (y ∷ ys) zero = omega (arith, sum-cons y ys)
at-le-sum (y ∷ ys) (suc x) = omega (arith, sum-cons y ys, at-le-sum ys x)

pub weigh-le : (n : ℕ) (a : List ℕ) (g : ℕ → ℕ) (c : ℕ) → ((x : ℕ) → g x ≤ c) → sum_below n (λ k. at a k * g k) ≤ sum a * c
weigh-le zero a g c h = omega arith
weigh-le (suc n) [] g c h = omega (arith, weigh-le n [] g c h)
weigh-le (suc n) (x ∷ xs) g c h = rw (sum-cons x xs) (omega (
  arith,
  sum_below-first n (λ k. at (x ∷ xs) k * g k),
  mul-le-mul_left x (h 0),
  weigh-le n xs (λ k. g (suc k)) c (λ k. h (suc k)),
))

pub ways-le : (a b : List ℕ) (i n u : ℕ) → sum a ≤ u → sum b ≤ u → sum_below n (λ j. at a j * at b (i - j)) ≤ u * u
ways-le a b i n u p q = le_trans (weigh-le n a (λ j. at b (i - j)) u (λ x. le_trans (at-le-sum b (i - x)) q)) (mul-le-mul_right u p)
