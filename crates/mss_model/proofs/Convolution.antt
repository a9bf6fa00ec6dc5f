-- Convolutions of two functions, as a tool for the laws of sums of distributions: by recursion on the index, where
-- the first function shifts, so that no subtraction comes in.
use Rattle.std.proofs.Common.{◌≡◌, ℕ, ◌+◌, ◌*◌, ◌≤◌, zero, suc, refl, ◌∙◌, arith, mul-le-mul, mul-le-mul_right, le_refl}

-- the weight of i in the sum of two distributions with the weights f and g, with no subtraction
abbrev pub conv : (ℕ → ℕ) → (ℕ → ℕ) → ℕ → ℕ
conv f g zero = f 0 * g 0
conv f g (suc i) = f 0 * g (suc i) + conv (λ k. f (suc k)) g i

pub conv-le : (f g h k : ℕ → ℕ) (i : ℕ) → ((x : ℕ) → f x ≤ g x) → ((x : ℕ) → h x ≤ k x) → conv f h i ≤ conv g k i
conv-le f g h k zero p q = mul-le-mul (p 0) (q 0)
conv-le f g h k (suc i) p q = omega (arith, mul-le-mul (p 0) (q (suc i)), conv-le (λ x. f (suc x)) (λ x. g (suc x)) h k i (λ x. p (suc x)) q)

pub conv-zero : (g : ℕ → ℕ) (i : ℕ) → conv (λ x. 0) g i ≡ 0
conv-zero g zero = omega arith
conv-zero g (suc i) = omega (arith, conv-zero g i)

pub conv-add_right : (f g h : ℕ → ℕ) (i : ℕ) → conv f (λ x. g x + h x) i ≡ conv f g i + conv f h i
conv-add_right f g h zero = omega arith
conv-add_right f g h (suc i) = omega (arith, conv-add_right (λ x. f (suc x)) g h i)

pub conv-add_left : (f g h : ℕ → ℕ) (i : ℕ) → conv (λ x. f x + g x) h i ≡ conv f h i + conv g h i
conv-add_left f g h zero = omega arith
conv-add_left f g h (suc i) = omega (arith, conv-add_left (λ x. f (suc x)) (λ x. g (suc x)) h i)

pub conv-scale_right : (m : ℕ) (f g : ℕ → ℕ) (i : ℕ) → conv f (λ x. g x * m) i ≡ conv f g i * m
conv-scale_right m f g zero = omega arith
conv-scale_right m f g (suc i) = omega (arith, conv-scale_right m (λ x. f (suc x)) g i)

pub conv-scale_left : (m : ℕ) (f g : ℕ → ℕ) (i : ℕ) → conv (λ x. f x * m) g i ≡ conv f g i * m
conv-scale_left m f g zero = omega arith
conv-scale_left m f g (suc i) = omega (arith, conv-scale_left m (λ x. f (suc x)) g i)

conv-times_left : (m : ℕ) (f g : ℕ → ℕ) (i : ℕ) → conv (λ x. m * f x) g i ≡ m * conv f g i
conv-times_left m f g zero = omega arith
conv-times_left m f g (suc i) = omega (arith, conv-times_left m (λ x. f (suc x)) g i)

pub conv-last : (f g : ℕ → ℕ) (i : ℕ) → conv f g (suc i) ≡ conv f (λ x. g (suc x)) i + f (suc i) * g 0
conv-last f g zero = refl
conv-last f g (suc i) = omega (arith, conv-last (λ x. f (suc x)) g i)

pub conv_comm : (f g : ℕ → ℕ) (i : ℕ) → conv f g i ≡ conv g f i
conv_comm f g zero = omega arith
conv_comm f g (suc i) = omega (arith, conv-last g f i, conv_comm (λ x. f (suc x)) g i)

pub conv_assoc : (f g h : ℕ → ℕ) (i : ℕ) → conv (conv f g) h i ≡ conv f (conv g h) i
conv_assoc f g h zero = omega arith
conv_assoc f g h (suc i) = omega (
  arith,
  conv-add_left (λ k. f 0 * g (suc k)) (conv (λ x. f (suc x)) g) h i,
  conv-times_left (f 0) (λ k. g (suc k)) h i,
  conv_assoc (λ x. f (suc x)) g h i,
)

abbrev pub one : ℕ → ℕ
one x = 1

pub conv-same_left : (f g h : ℕ → ℕ) (i : ℕ) → ((x : ℕ) → f x ≡ g x) → conv f h i ≡ conv g h i
conv-same_left f g h zero e = rw (e 0)
conv-same_left f g h (suc i) e = rw (e 0, conv-same_left (λ x. f (suc x)) (λ x. g (suc x)) h i (λ x. e (suc x)))

pub conv-exchange : (f g h : ℕ → ℕ) (i : ℕ) → conv (conv f g) h i ≡ conv g (conv f h) i
conv-exchange f g h i = conv-same_left (conv f g) (conv g f) h i (conv_comm f g) ∙ conv_assoc g f h i

pub conv-const : (f : ℕ → ℕ) (m i : ℕ) → conv f (λ x. m) i ≡ conv f one i * m
conv-const f m zero = omega arith
conv-const f m (suc i) = omega (arith, conv-const (λ x. f (suc x)) m i)

-- one factor changes: f is at most g, but for m, and so are the sums
pub conv-change : (w f g : ℕ → ℕ) (t u m c : ℕ) → ((x : ℕ) → f x * t ≤ g x * u + m) → ((x : ℕ) → conv w one x ≤ c)
    → (i : ℕ) → conv w f i * t ≤ conv w g i * u + c * m
conv-change w f g t u m c h k i = omega (
  arith,
  conv-scale_right t w f i,
  conv-le w w (λ x. f x * t) (λ x. g x * u + m) i (λ x. le_refl (w x)) h,
  conv-add_right w (λ x. g x * u) (λ x. m) i,
  conv-scale_right u w g i,
  conv-const w m i,
  mul-le-mul_right m (k i),
)

pub conv-same_right : (f g h : ℕ → ℕ) (i : ℕ) → ((x : ℕ) → g x ≡ h x) → conv f g i ≡ conv f h i
conv-same_right f g h i e = conv_comm f g i ∙ conv-same_left g h f i e ∙ conv_comm h f i
