-- Binomial thinning twice is thinning once with the product of the chances.
--
-- Weights are functions of the count here, and a sum over counts recurs on the greatest one, so that no power of
-- the denominator has to be divided out.
use Rattle.std.proofs.Common.{◌≡◌, ℕ, zero, suc, ◌+◌, ◌*◌, ◌<◌, refl, arith}

-- the weights f, and one patient more: present with weight p, absent with weight q
abbrev pub one_more : ℕ → ℕ → (ℕ → ℕ) → ℕ → ℕ
one_more p q f zero = q * f zero
one_more p q f (suc x) = p * f x + q * f (suc x)

-- the weight with which x of k patients are present
abbrev pub present_absent : ℕ → ℕ → ℕ → ℕ → ℕ
present_absent p q zero zero = 1
present_absent p q zero (suc x) = 0
present_absent p q (suc k) x = one_more p q (present_absent p q k) x

-- the weight of x patients present, where g has the weight of each count up to n, over the common denominator
abbrev pub mixture : ℕ → ℕ → ℕ → (ℕ → ℕ) → ℕ → ℕ
mixture p q zero g x = g zero * present_absent p q zero x
mixture p q (suc n) g x = (p + q) * mixture p q n g x + g (suc n) * present_absent p q (suc n) x

pub present_absent_above : (p q k x : ℕ) → k < x → present_absent p q k x ≡ 0
present_absent_above p q zero zero h = omega arith
present_absent_above p q zero (suc x) h = refl
present_absent_above p q (suc k) zero h = omega arith
present_absent_above p q (suc k) (suc x) h =
    let e1 : present_absent p q k x ≡ 0 = present_absent_above p q k x (omega arith) in
    let e2 : present_absent p q k (suc x) ≡ 0 = present_absent_above p q k (suc x) (omega arith) in
    rw (e1, e2) (omega arith)

pub mixture_linear : (p q : ℕ) (a b : ℕ) (g h : ℕ → ℕ) (n x : ℕ) →
    mixture p q n (λ j. a * g j + b * h j) x ≡ a * mixture p q n g x + b * mixture p q n h x
mixture_linear p q a b g h zero x = omega arith
mixture_linear p q a b g h (suc n) x = rw (mixture_linear p q a b g h n x) (omega arith)

-- one patient more before the second thinning, or after it
pub mixture_one_more : (p1 q1 p2 q2 : ℕ) (g : ℕ → ℕ) (n x : ℕ) →
    mixture p2 q2 (suc n) (one_more p1 q1 g) x
    ≡ one_more (p1 * p2) (q1 * (p2 + q2) + p1 * q2) (mixture p2 q2 n g) x + q1 * g (suc n) * present_absent p2 q2 (suc n) x
mixture_one_more p1 q1 p2 q2 g zero zero = omega arith
mixture_one_more p1 q1 p2 q2 g zero (suc x) = omega arith
mixture_one_more p1 q1 p2 q2 g (suc n) zero = rw (mixture_one_more p1 q1 p2 q2 g n zero) (omega arith)
mixture_one_more p1 q1 p2 q2 g (suc n) (suc x) = rw (mixture_one_more p1 q1 p2 q2 g n (suc x)) (omega arith)

pub mixture_of_present : (p1 q1 p2 q2 : ℕ) (n x : ℕ) →
    mixture p2 q2 n (present_absent p1 q1 n) x ≡ present_absent (p1 * p2) (q1 * (p2 + q2) + p1 * q2) n x
mixture_of_present p1 q1 p2 q2 zero zero = refl
mixture_of_present p1 q1 p2 q2 zero (suc x) = refl
mixture_of_present p1 q1 p2 q2 (suc n) zero =
    rw (mixture_one_more p1 q1 p2 q2 (present_absent p1 q1 n) n zero, mixture_of_present p1 q1 p2 q2 n zero, present_absent_above p1 q1 n (suc n) (omega arith)) (omega arith)
mixture_of_present p1 q1 p2 q2 (suc n) (suc x) =
    rw (mixture_one_more p1 q1 p2 q2 (present_absent p1 q1 n) n (suc x), mixture_of_present p1 q1 p2 q2 n x, mixture_of_present p1 q1 p2 q2 n (suc x), present_absent_above p1 q1 n (suc n) (omega arith)) (omega arith)

pub mixture_above : (p q : ℕ) (g : ℕ → ℕ) (n x : ℕ) → n < x → mixture p q n g x ≡ 0
mixture_above p q g zero x h = rw (present_absent_above p q zero x h) (omega arith)
mixture_above p q g (suc n) x h = rw (mixture_above p q g n x (omega arith), present_absent_above p q (suc n) x h) (omega arith)

-- thinning twice is thinning once
pub mixture_twice : (p1 q1 p2 q2 : ℕ) (g : ℕ → ℕ) (n x : ℕ) →
    mixture p2 q2 n (mixture p1 q1 n g) x ≡ mixture (p1 * p2) (q1 * (p2 + q2) + p1 * q2) n g x
mixture_twice p1 q1 p2 q2 g zero zero = omega arith
mixture_twice p1 q1 p2 q2 g zero (suc x) = omega arith
mixture_twice p1 q1 p2 q2 g (suc n) x =
    let e1 : mixture p2 q2 n (λ j. (p1 + q1) * mixture p1 q1 n g j + g (suc n) * present_absent p1 q1 (suc n) j) x
    ≡ (p1 + q1) * mixture p2 q2 n (mixture p1 q1 n g) x + g (suc n) * mixture p2 q2 n (present_absent p1 q1 (suc n)) x
    = mixture_linear p2 q2 (p1 + q1) (g (suc n)) (mixture p1 q1 n g) (present_absent p1 q1 (suc n)) n x in
    let e2 : mixture p2 q2 (suc n) (present_absent p1 q1 (suc n)) x ≡ present_absent (p1 * p2) (q1 * (p2 + q2) + p1 * q2) (suc n) x
    = mixture_of_present p1 q1 p2 q2 (suc n) x in
    rw (e1, mixture_twice p1 q1 p2 q2 g n x, mixture_above p1 q1 g n (suc n) (omega arith), ← e2) (omega arith)
