-- Sums over a range of numbers: term by term, in parts, exchanged, and as sums of lists.
use Rattle.std.proofs.Common.{◌≡◌, ℕ, zero, suc, ◌+◌, ◌*◌, ◌<◌, ◌≤◌, List, refl, sym, ap, ◌∙◌, sum, arith, map, add-one, length, get_or}
use Rattle.std.specs.List.{range_with_len}
use Rattle.std.proofs.lemmas.List.FromFn.{fill_by_all, sum_by-map-range_with_len_more}
use Rattle.mss_model.specs.Sums.{sum_below}

pub sum_below_ext : (n : ℕ) (f g : ℕ → ℕ) → ((k : ℕ) → k < n → f k ≡ g k) → sum_below n f ≡ sum_below n g
sum_below_ext zero f g h = refl
sum_below_ext (suc n) f g h =
    let e1 : sum_below n f ≡ sum_below n g = sum_below_ext n f g (λ k l. h k (omega arith)) in
    let e2 : f n ≡ g n = h n (omega arith) in
    omega arith

pub sum_below_le : (n : ℕ) (f g : ℕ → ℕ) → ((k : ℕ) → k < n → f k ≤ g k) → sum_below n f ≤ sum_below n g
sum_below_le zero f g h = omega arith
sum_below_le (suc n) f g h =
    let e1 : sum_below n f ≤ sum_below n g = sum_below_le n f g (λ k l. h k (omega arith)) in
    let e2 : f n ≤ g n = h n (omega arith) in
    omega arith

pub sum_below_linear : (n a b : ℕ) (f g : ℕ → ℕ) →
    sum_below n (λ k. a * f k + b * g k) ≡ a * sum_below n f + b * sum_below n g
sum_below_linear zero a b f g = omega arith
sum_below_linear (suc n) a b f g = rw (sum_below_linear n a b f g) (omega arith)

pub sum_below_scale : (n a : ℕ) (f : ℕ → ℕ) → sum_below n (λ k. a * f k) ≡ a * sum_below n f
sum_below_scale zero a f = omega arith
sum_below_scale (suc n) a f = rw (sum_below_scale n a f) (omega arith)

pub sum_below_add : (n : ℕ) (f g : ℕ → ℕ) → sum_below n (λ k. f k + g k) ≡ sum_below n f + sum_below n g
sum_below_add zero f g = refl
sum_below_add (suc n) f g = omega (arith, sum_below_add n f g)

pub sum_below_none : (n : ℕ) → sum_below n (λ k. 0) ≡ 0
sum_below_none zero = refl
sum_below_none (suc n) = omega (arith, sum_below_none n)

-- two sums exchanged
pub sum_below_swap : (n m : ℕ) (f : ℕ → ℕ → ℕ) →
    sum_below n (λ k. sum_below m (λ x. f k x)) ≡ sum_below m (λ x. sum_below n (λ k. f k x))
sum_below_swap zero m f = sym (sum_below_none m)
sum_below_swap (suc n) m f =
    let e : sum_below m (λ x. sum_below n (λ k. f k x) + f n x) ≡ sum_below m (λ x. sum_below n (λ k. f k x)) + sum_below m (f n)
    = sum_below_add m (λ x. sum_below n (λ k. f k x)) (f n) in
    omega (arith, sum_below_swap n m f)

-- the sum of a list made from a function
pub sum_of_list : (n : ℕ) (f : ℕ → ℕ) → sum (map f (range_with_len 0 n)) ≡ sum_below n f
sum_of_list zero f = omega arith
sum_of_list (suc n) f =
    let step : sum (map f (range_with_len 0 (suc n))) ≡ sum (map f (range_with_len 0 n)) + f n
    = ap (λ m. sum (map f (range_with_len 0 m))) (sym (add-one n)) ∙ sum_by-map-range_with_len_more (λ y. y) f 0 n n (omega arith) in
    omega (arith, sum_of_list n f)

-- the sum of a list, by its places
pub sum_by_places : (xs : List ℕ) (n : ℕ) → length xs ≡ n → sum xs ≡ sum_below n (λ k. get_or xs k 0)
sum_by_places xs n e =
    ap sum (fill_by_all (λ k. get_or xs k 0) xs n 0 e (λ k l. refl)) ∙ sum_of_list n (λ k. get_or xs k 0)
