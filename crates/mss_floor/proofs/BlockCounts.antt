-- Steps of loops: the least number of blocks is a quotient, rounded up; one slot more.
use Rattle.std.proofs.Common.{◌≡◌, ℕ, zero, suc, ◌+◌, ◌*◌, ◌/◌, ◌%◌, ◌<◌, ◌≤◌, inl, inr, get_or, replicate, refl, ◌∙◌, arith, min, max, nat_le, le-leb, mul-le-mul_right, add-one}
use Rattle.std.specs.Int.{div_ceil}
use Rattle.std.proofs.Math.Nat.{mod-lt, div-add-mod'}
use Rattle.mss_model.specs.Percentile.{least}
use Rattle.mss_model.specs.Peak.{largest_below}
use Rattle.mss_model.proofs.LeastNumber.{least-is, leb-over}
use Rattle.mss_model.specs.declared.parts.TableParts.{TableParts}
use Rattle.mss_model.specs.TableWords.{minutes_at}
use Rattle.mss_model.specs.Legality.{could_take}
use Rattle.std.proofs.lemmas.Bool.{cases_Bool}
use Rattle.mss_floor.specs.ForcedBlocks.{blocks_for, open_minutes}

least-of : (m q r k : ℕ) → q * suc k + r ≡ m → r < suc k → q + min 1 r ≡ least (suc m) (λ b. nat_le m (b * suc k))
least-of m q zero k e l =
    let c : q + min 1 0 ≡ q = omega arith in
    c ∙ least-is (suc m) (λ b. nat_le m (b * suc k)) q (omega (arith, e)) (le-leb m (q * suc k) (omega (arith, e)))
    (λ y less. leb-over m (y * suc k) (omega (arith, e, mul-le-mul_right (suc k) (let s : y + 1 ≤ q = omega (arith, less) in s))))
least-of m q (suc r) k e l =
    let c : q + min 1 (suc r) ≡ q + 1 = omega arith in
    c ∙ least-is (suc m) (λ b. nat_le m (b * suc k)) (q + 1) (omega (arith, e)) (le-leb m ((q + 1) * suc k) (omega (arith, e, l)))
    (λ y less. leb-over m (y * suc k) (omega (arith, e, mul-le-mul_right (suc k) (let s : y ≤ q = omega (arith, less) in s))))

pub blocks_are : (m most : ℕ) → 0 < most → div_ceil m most ≡ blocks_for m most
blocks_are m zero h = absurd (omega arith)
blocks_are m (suc k) h = least-of m (m / suc k) (m % suc k) k (div-add-mod' m (suc k)) (mod-lt m h)

pub no_blocks : (m most : ℕ) → most ≡ 0 → 0 ≡ blocks_for m most
no_blocks m most e = rw e refl

pub largest_more : (n : ℕ) (f : ℕ → ℕ) → largest_below (n + 1) f ≡ max (largest_below n f) (f n)
largest_more n f = rw (add-one n) refl

-- a slot with no more minutes than others
pub no_longer : (t : TableParts) (j slot most : ℕ) → minutes_at t slot ≤ most → most ≡ max most (open_minutes t j slot)
no_longer t j slot most h = elim (cases_Bool (could_take t slot j)) [
  | inl could ↦ rw could (omega (arith, h))
  | inr not ↦ rw not (omega arith)
]

pub all-same : (n q z : ℕ) → get_or (replicate n z) q z ≡ z
all-same zero q z = refl
all-same (suc n) zero z = refl
all-same (suc n) (suc q) z = all-same n q z

pub ruleset block_counts = (blocks_are, no_blocks)

pub ruleset longer_slots = (no_longer)
