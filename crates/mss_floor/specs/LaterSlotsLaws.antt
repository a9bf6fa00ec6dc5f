-- The census of the slots from one on: it is a sum over slots, and one of its blocks may be put first.
use Rattle.std.proofs.Common.{◌≡◌, ℕ, zero, suc, ◌+◌, ◌<◌, ◌≤◌, ◌==◌, ◌&&◌, Bool, true, false, List, [], ◌∷◌, ◌++◌, length, map, sum, refl, sym, ap, subst, ◌∙◌, arith, inl, inr, eqb-true}
use Rattle.std.specs.Prelude.{if◌then◌else◌}
use Rattle.std.proofs.lemmas.Bool.{cases_Bool, ne_eqb}
use Rattle.std.proofs.lemmas.List.{map-append}
use Rattle.mss_model.specs.declared.parts.TableParts.{TableParts}
use Rattle.mss_model.specs.Distribution.{convolution, convolution_all}
use Rattle.mss_model.specs.Limits.{IsTables}
use Rattle.mss_model.specs.Occurrences.{Occurrence, slot_occurrences, occurrences_from}
use Rattle.mss_model.specs.Census.{those_present}
use Rattle.mss_model.specs.Legality.{could_take}
use Rattle.mss_model.proofs.ConvolutionSums.{nonempty, positive-all, convolution_all-append, convolution_assoc, convolution-unit_left}
use Rattle.mss_floor.specs.ForcedBlocks.{blocks_from}
use Rattle.mss_census.specs.SlotSumsLaws.{all-positive}
use Rattle.mss_floor.specs.OrderOfSumsLaws.{convolution-exchange}

-- those whom a slot with this option adds to a ward on a day
abbrev pub slot_census : TableParts → ℕ → ℕ → ℕ → ℕ → List ℕ
slot_census t w day slot option = convolution_all (map (those_present t) (slot_occurrences t w day slot option))

-- those whom the slots from one on add
abbrev pub later_census : TableParts → ℕ → ℕ → ℕ → List ℕ → List ℕ
later_census t w day slot options = convolution_all (map (those_present t) (occurrences_from t w day slot options))

pub slot-positive : (t : TableParts) (w day slot option : ℕ) → IsTables t → 0 < sum (slot_census t w day slot option)
slot-positive t w day slot option good = positive-all (map (those_present t) (slot_occurrences t w day slot option)) (all-positive t (slot_occurrences t w day slot option) good)

pub later-positive : (t : TableParts) (w day slot : ℕ) (r : List ℕ) → IsTables t → 0 < sum (later_census t w day slot r)
later-positive t w day slot r good = positive-all (map (those_present t) (occurrences_from t w day slot r)) (all-positive t (occurrences_from t w day slot r) good)

pub later-more : (t : TableParts) (w day slot option : ℕ) (r : List ℕ) → IsTables t
    → later_census t w day slot (option ∷ r) ≡ convolution (slot_census t w day slot option) (later_census t w day (slot + 1) r)
later-more t w day slot option r good =
    let here : List Occurrence = slot_occurrences t w day slot option in
    let rest : List Occurrence = occurrences_from t w day (slot + 1) r in
    ap convolution_all (map-append (those_present t) here rest)
    ∙ convolution_all-append (map (those_present t) here) (map (those_present t) rest) (all-positive t here good) (all-positive t rest good)

-- the slots of a prefix, and those behind it
pub later-append : (t : TableParts) (w day slot : ℕ) (p r : List ℕ) → IsTables t
    → later_census t w day slot (p ++ r) ≡ convolution (later_census t w day slot p) (later_census t w day (slot + length p) r)
later-append t w day slot [] r good =
    let e : slot ≡ slot + 0 = omega arith in
    ap (λ s. later_census t w day s r) e
    ∙ sym (convolution-unit_left (later_census t w day (slot + 0) r) (nonempty _ (later-positive t w day (slot + 0) r good)))
later-append t w day slot (option ∷ p) r good =
    let e : slot + 1 + length p ≡ slot + length (option ∷ p) = omega arith in
    let here : List ℕ = slot_census t w day slot option in
    let front : List ℕ = later_census t w day (slot + 1) p in
    let back : List ℕ = later_census t w day (slot + 1 + length p) r in
    later-more t w day slot option (p ++ r) good
    ∙ ap (convolution here) (later-append t w day (slot + 1) p r good)
    ∙ sym (convolution_assoc here front back (nonempty _ (slot-positive t w day slot option good)) (nonempty _ (later-positive t w day (slot + 1) p good)) (nonempty _ (later-positive t w day (slot + 1 + length p) r good)))
    ∙ ap (λ l. convolution l back) (sym (later-more t w day slot option p good))
    ∙ ap (λ s. convolution (later_census t w day slot (option ∷ p)) (later_census t w day s r)) e

-- ---- one block put first

-- A block of a specialty that stands first in the sum, and the options without it.
pub record TakenOut (t : TableParts) (w day stop j slot : ℕ) (r : List ℕ) : Type 0 where
  pub place : ℕ
  pub from : slot ≤ place
  pub before : place < stop
  pub could : could_take t place j ≡ true
  pub left : List ℕ
  pub long : length left ≡ length r
  pub sum : later_census t w day slot r ≡ convolution (slot_census t w day place j) (later_census t w day slot left)
  pub counts : (i : ℕ) → 0 < i → blocks_from t i slot r ≡ blocks_from t i slot left + (if j == i then 1 else 0)

here-count : (i j : ℕ) (could_i : Bool) → 0 < i → (i ≡ j → could_i ≡ true)
    → (if (j == i) && could_i then 1 else 0) ≡ (if (0 == i) && could_i then 1 else 0) + (if j == i then 1 else 0)
here-count zero j b some h = absurd (omega arith)
here-count (suc i) j b some h =
    let idle : (0 == suc i) ≡ false = ne_eqb 0 (suc i) (λ e. omega (arith, e)) in
    elim (cases_Bool (j == suc i)) [
      | inl same ↦ rw (idle, same, h (sym (eqb-true j (suc i) same))) (omega arith)
      | inr other ↦ rw (idle, other) (omega arith)
    ]

pub take-out : (t : TableParts) (w day stop j slot : ℕ) (r : List ℕ) → IsTables t → slot + length r ≤ stop → 0 < blocks_from t j slot r → TakenOut t w day stop j slot r
take-out t w day stop j slot [] good within some = absurd (omega arith)
take-out t w day stop j slot (option ∷ r) good within some = elim (cases_Bool ((option == j) && could_take t slot j)) [
  | inl hit ↦ here (both (option == j) (could_take t slot j) hit)
  | inr miss ↦ there (take-out t w day stop j (slot + 1) r good (omega (arith, within)) (let more : 0 < 0 + blocks_from t j (slot + 1) r = rw miss at some in omega (arith, more)))
]
  where
    both : (a b : Bool) → a && b ≡ true → (a ≡ true) × (b ≡ true)
    both true true h = (refl, refl)
    both true false h = absurd (cc)
    both false b h = absurd (cc)

    here : (option == j ≡ true) × (could_take t slot j ≡ true) → TakenOut t w day stop j slot (option ∷ r)
    here h =
        let e : option ≡ j = eqb-true option j h.0 in
        record {
          place = slot;
          from = omega arith;
          before = omega (arith, within);
          could = h.1;
          left = 0 ∷ r;
          long = refl;
          sum = later-more t w day slot option r good ∙ ap (λ o. convolution (slot_census t w day slot o) (later_census t w day (slot + 1) r)) e;
          counts = λ i pos. subst (λ o. blocks_from t i slot (o ∷ r) ≡ blocks_from t i slot (0 ∷ r) + (if j == i then 1 else 0)) (sym e)
              (omega (arith, here-count i j (could_take t slot i) pos (λ same. subst (λ k. could_take t slot k ≡ true) (sym same) h.1)));
        }

    there : TakenOut t w day stop j (slot + 1) r → TakenOut t w day stop j slot (option ∷ r)
    there h = record {
      place = h.place;
      from = omega (arith, h.from);
      before = h.before;
      could = h.could;
      left = option ∷ h.left;
      long = ap suc h.long;
      sum = later-more t w day slot option r good
          ∙ ap (convolution (slot_census t w day slot option)) h.sum
          ∙ convolution-exchange (slot_census t w day slot option) (slot_census t w day h.place j) (later_census t w day (slot + 1) h.left)
          (nonempty _ (slot-positive t w day slot option good)) (nonempty _ (slot-positive t w day h.place j good)) (nonempty _ (later-positive t w day (slot + 1) h.left good))
          ∙ ap (convolution (slot_census t w day h.place j)) (sym (later-more t w day slot option h.left good));
      counts = λ i pos. omega (arith, h.counts i pos);
    }
