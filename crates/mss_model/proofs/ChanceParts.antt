-- The parts of chances: some, and at most 1,000,000,000.
use Rattle.std.proofs.Common.{◌≡◌, ◌≤◌, ◌==◌, ◌||◌, ℕ, true, arith, inl, inr}
use Rattle.std.proofs.lemmas.Bool.{cases_Bool, eqb-true}
use Rattle.mss_model.specs.BlockAtAge.{IsParts}

between : (parts : ℕ) → (parts == 1000000 || parts == 1000000000) ≡ true → (1 ≤ parts) × (parts ≤ 1000000000)
between parts known = elim (cases_Bool (parts == 1000000)) [
  | inl coarse ↦ let e : parts ≡ 1000000 = eqb-true parts 1000000 coarse in (omega (arith, e), omega (arith, e))
  | inr other ↦ let e : parts ≡ 1000000000 = eqb-true parts 1000000000 (rw other at known) in (omega (arith, e), omega (arith, e))
]

pub parts-some : (parts : ℕ) → IsParts parts → 1 ≤ parts
parts-some parts h = (between parts h.known).0

pub parts-few : (parts : ℕ) → IsParts parts → parts ≤ 1000000000
parts-few parts h = (between parts h.known).1
