-- The blocks of tables within the limits, and their lists.
use Rattle.std.proofs.Common.{◌≡◌, ℕ, zero, suc, ◌+◌, ◌-◌, ◌<◌, ◌≤◌, true, List, [], ◌∷◌, ◌++◌, length, map, take, get_or, eqb, eqb-true, refl, ap, subst, ◌∙◌, arith, inl, inr}
use Rattle.std.proofs.lemmas.Bool.{cases_lt}
use lib.ListN.{get_or-eq_default}
use Rattle.std.proofs.lemmas.List.{length-map, get_or-map, take_more}
use Rattle.std.proofs.lemmas.List.Elements.{All-get_or}
use Rattle.std.proofs.Math.Nat.{mod-lt}
use Rattle.mss_model.specs.declared.parts.TableParts.{TableParts}
use Rattle.mss_model.specs.BlockAtAge.{BlockView, IsBlock, no_block}
use Rattle.mss_model.specs.TableWords.{block_of}
use Rattle.mss_model.specs.Limits.{IsTables}
use Rattle.mss_model.specs.Occurrences.{lies_on, offset}
use Rattle.mss_census.specs.declared.quantity.Quantity.{Quantity}
use Rattle.mss_census.specs.WardLists.{block_lists, quantity_lists}

one-chance : (k d : ℕ) → k < 1 → get_or (1000000 ∷ []) k d ≤ 1000000
one-chance zero d l = omega arith
one-chance (suc k) d l = absurd (omega arith)

no_block-good : IsBlock no_block
no_block-good = record {
  parts_good = record { known = refl };
  patients_good = record { some = omega arith; few = omega arith; whole = refl };
  stays_good = record { some = omega arith; few = omega arith; within = one-chance; last = refl; earlier = λ age l. absurd (omega arith) };
}

pub block-good : (t : TableParts) (j : ℕ) → IsTables t → IsBlock (block_of t j)
block-good t j h = elim (cases_lt (j - 1) (length t.blocks)) [
  | inl lt ↦ All-get_or IsBlock t.blocks (j - 1) no_block lt h.specialties.blocks_good
  | inr ge ↦ rw (get_or-eq_default t.blocks no_block {n = j - 1} ge) no_block-good
]

lies-known : (ward_of : List ℕ) (w i : ℕ) → 0 < w → eqb (get_or ward_of i 0) w ≡ true → i < length ward_of
lies-known ward_of w i pos h = elim (cases_lt i (length ward_of)) [
  | inl lt ↦ lt
  | inr ge ↦
      let z : get_or ward_of i 0 ≡ 0 = get_or-eq_default ward_of 0 {n = i} ge in
      let e : get_or ward_of i 0 ≡ w = eqb-true (get_or ward_of i 0) w h in
      absurd (omega arith)
]

-- the lists of the block of a specialty that lies on a ward
pub lists-are : (q : Quantity) (t : TableParts) (w j : ℕ) → IsTables t → 0 < w → lies_on t.ward_of w j ≡ true
    → get_or (quantity_lists q t).lists (j - 1) [] ≡ block_lists q t.days (block_of t j)
lists-are q t w zero h pos l = absurd (cc (l))
lists-are q t w (suc i) h pos l =
    let known : i < length t.blocks = omega (arith, lies-known t.ward_of w i pos l, h.specialties.ward_of.count, h.specialties.blocks) in
    let e : i ≡ suc i - 1 = omega arith in
    subst (λ m. get_or (map (block_lists q t.days) t.blocks) m [] ≡ block_lists q t.days (get_or t.blocks m no_block)) e
    (get_or-map (block_lists q t.days) t.blocks i no_block [] known)

pub offset-lt : (days t q : ℕ) → 1 ≤ days → offset days t q < days
offset-lt days t q h = mod-lt (t + days - q) h

pub take-lists : (q : Quantity) (days : ℕ) (blocks : List BlockView) (j : ℕ) → j < length blocks
    → take (j + 1) (map (block_lists q days) blocks) ≡ take j (map (block_lists q days) blocks) ++ block_lists q days (get_or blocks j no_block) ∷ []
take-lists q days blocks j l =
    take_more (map (block_lists q days) blocks) j [] (omega (arith, length-map blocks (block_lists q days), l))
    ∙ ap (λ r. take j (map (block_lists q days) blocks) ++ r ∷ []) (get_or-map (block_lists q days) blocks j no_block [] l)
