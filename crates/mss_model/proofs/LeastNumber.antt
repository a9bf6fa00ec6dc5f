-- A search for the least number that passes.
use Rattle.std.proofs.Common.{◌≡◌, ℕ, ◌≤◌, ◌<◌, zero, suc, refl, Bool, true, false, cond, arith, ap, leb}
use Rattle.std.proofs.lemmas.Bool.Decides.{nat_tests}
use Rattle.mss_model.specs.Percentile.{least}

-- an easier test passes no later
pub least-le-least : (n : ℕ) (p q : ℕ → Bool) → ((x : ℕ) → q x ≡ true → p x ≡ true) → least n p ≤ least n q
least-le-least zero p q h = omega arith
least-le-least (suc n) p q h = go (p 0) (q 0) (h 0) (least-le-least n (λ x. p (suc x)) (λ x. q (suc x)) (λ x. h (suc x)))
  where
    go : {i j : ℕ} (b c : Bool) → (c ≡ true → b ≡ true) → i ≤ j → cond b 0 (suc i) ≤ cond c 0 (suc j)
    go true c e l = omega arith
    go false true e l = cc (e refl)
    go false false e l = omega arith

-- what passes isn't below it
pub least-le : (n : ℕ) (p : ℕ → Bool) (x : ℕ) → p x ≡ true → least n p ≤ x
least-le zero p x h = omega arith
least-le (suc n) p zero h = rw h (omega arith)
least-le (suc n) p (suc x) h = go (p 0) (least-le n (λ y. p (suc y)) x h)
  where
    go : {i j : ℕ} (b : Bool) → i ≤ j → cond b 0 (suc i) ≤ suc j
    go true l = omega arith
    go false l = omega arith

pub least-is : (n : ℕ) (p : ℕ → Bool) (x : ℕ) → x < n → p x ≡ true → ((y : ℕ) → y < x → p y ≡ false) → x ≡ least n p
least-is zero p x lt h m = absurd (omega arith)
least-is (suc n) p zero lt h m = rw h refl
least-is (suc n) p (suc x) lt h m = rw (m 0 (omega arith)) (ap suc (least-is n (λ y. p (suc y)) x (omega arith) h (λ y l. m (suc y) (omega arith))))

pub least-none : (n : ℕ) (p : ℕ → Bool) → ((y : ℕ) → y < n → p y ≡ false) → n ≡ least n p
least-none zero p m = refl
least-none (suc n) p m = rw (m 0 (omega arith)) (ap suc (least-none n (λ y. p (suc y)) (λ y l. m (suc y) (omega arith))))

pub leb-over : (a b : ℕ) → b < a → leb a b ≡ false
leb-over a b h = grind (arith, nat_tests)

-- an easier test over a shorter range passes no later
pub least-le-longer : (n m : ℕ) (p q : ℕ → Bool) → n ≤ m → ((x : ℕ) → q x ≡ true → p x ≡ true) → least n p ≤ least m q
least-le-longer zero m p q l h = omega arith
least-le-longer (suc n) zero p q l h = absurd (omega arith)
least-le-longer (suc n) (suc m) p q l h = go (p 0) (q 0) (h 0) (least-le-longer n m (λ x. p (suc x)) (λ x. q (suc x)) (omega arith) (λ x. h (suc x)))
  where
    go : {i j : ℕ} (b c : Bool) → (c ≡ true → b ≡ true) → i ≤ j → cond b 0 (suc i) ≤ cond c 0 (suc j)
    go true c e l = omega arith
    go false true e l = cc (e refl)
    go false false e l = omega arith
