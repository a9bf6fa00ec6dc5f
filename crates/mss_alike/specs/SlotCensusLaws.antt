-- The census as a sum over slots, in which two slots may exchange what they give.
use Rattle.std.proofs.Common.{◌≡◌, ℕ, zero, suc, ◌+◌, ◌-◌, ◌^◌, ◌<◌, List, [], ◌∷◌, ◌++◌, length, map, refl, sym, ap, ap₂, arith, lit<, ◌∙◌, inl, inr}
use lib.ListN.{get_or-eq_default}
use Rattle.std.proofs.lemmas.Bool.{cases_eq, cases_lt}
use Rattle.std.proofs.lemmas.List.Edits.{Swapped}
use Rattle.std.proofs.lemmas.List.Elements.{All-get_or}
use Rattle.mss_model.specs.declared.parts.TableParts.{TableParts}
use Rattle.mss_model.specs.BlockAtAge.{IsBlock, no_block}
use Rattle.mss_model.specs.Census.{census, those_present}
use Rattle.mss_model.specs.Distribution.{convolution, convolution_all}
use Rattle.mss_model.specs.Legality.{option_at}
use Rattle.mss_model.specs.Limits.{IsTables}
use Rattle.mss_model.specs.Occurrences.{Occurrence, occurrences_from, slot_occurrences}
use Rattle.mss_model.specs.Presence.{presence}
use Rattle.mss_model.specs.TableWords.{block_of}
use Rattle.mss_model.proofs.ConvolutionSums.{convolution_assoc, convolution_comm, convolution-unit_left, convolution-unit_right}
use Rattle.mss_model.proofs.ListsAsFunctions.{length-convolution}
use Rattle.mss_model.proofs.ThinnedLists.{length-thinned_by}
use Rattle.mss_alike.specs.ExchangesLaws.{at_other, at_place, but_at, others_same}

-- ---- the sum of the distributions of the numbers below n

abbrev pub convolution_below : ℕ → (ℕ → List ℕ) → List ℕ
convolution_below zero f = 1 ∷ []
convolution_below (suc n) f = convolution (convolution_below n f) (f n)

abbrev pub AllSome : (ℕ → List ℕ) → Type 0
AllSome f = (k : ℕ) → 0 < length (f k)

convolution-some : (a b : List ℕ) → 0 < length a → 0 < length b → 0 < length (convolution a b)
convolution-some a b p q = omega (arith, length-convolution a b)

some-below : (n : ℕ) (f : ℕ → List ℕ) → AllSome f → 0 < length (convolution_below n f)
some-below zero f s = lit< tt
some-below (suc n) f s = convolution-some (convolution_below n f) (f n) (some-below n f s) (s n)

below-same : (n : ℕ) (f g : ℕ → List ℕ) → ((k : ℕ) → k < n → f k ≡ g k) → convolution_below n f ≡ convolution_below n g
below-same zero f g h = refl
below-same (suc n) f g h = ap₂ convolution (below-same n f g (λ k l. h k (omega arith))) (h n (omega arith))

below-first : (n : ℕ) (f : ℕ → List ℕ) → AllSome f → convolution_below (suc n) f ≡ convolution (f 0) (convolution_below n (λ k. f (suc k)))
below-first zero f s = convolution-unit_left (f 0) (s 0) ∙ sym (convolution-unit_right (f 0) (s 0))
below-first (suc n) f s =
    ap (λ e. convolution e (f (suc n))) (below-first n f s)
    ∙ convolution_assoc (f 0) (convolution_below n (λ k. f (suc k))) (f (suc n)) (s 0) (some-below n (λ k. f (suc k)) (λ k. s (suc k))) (s (suc n))

but-some : (a : ℕ) (f : ℕ → List ℕ) → AllSome f → AllSome (but_at a (1 ∷ []) f)
but-some a f s k = elim (cases_eq k a) [
  | inl same ↦ rw (at_place a (1 ∷ []) f k same) (lit< tt)
  | inr other ↦ rw (at_other a (1 ∷ []) f k other) (s k)
]

below-taken : (n a : ℕ) (f : ℕ → List ℕ) → AllSome f → a < n → convolution_below n f ≡ convolution (f a) (convolution_below n (but_at a (1 ∷ []) f))
below-taken zero a f s l = absurd (omega arith)
below-taken (suc n) a f s l = elim (cases_eq n a) [
  | inl same ↦
      let rest : convolution_below n (but_at a (1 ∷ []) f) ≡ convolution_below n f = below-same n _ f (λ k kl. at_other a (1 ∷ []) f k (λ e. omega arith)) in
      convolution_comm (convolution_below n f) (f n) (some-below n f s) (s n)
      ∙ ap₂ convolution (ap f same) (sym (convolution-unit_right (convolution_below n f) (some-below n f s)) ∙ ap₂ convolution (sym rest) (sym (at_place a (1 ∷ []) f n same)))
  | inr other ↦
      ap (λ e. convolution e (f n)) (below-taken n a f s (omega arith))
      ∙ convolution_assoc (f a) (convolution_below n (but_at a (1 ∷ []) f)) (f n) (s a) (some-below n _ (but-some a f s)) (s n)
      ∙ ap (λ e. convolution (f a) (convolution (convolution_below n (but_at a (1 ∷ []) f)) e)) (sym (at_other a (1 ∷ []) f n other))
]

two-taken : (n a b : ℕ) (f : ℕ → List ℕ) → AllSome f → a < b → b < n
    → convolution_below n f ≡ convolution (f a) (convolution (f b) (convolution_below n (but_at b (1 ∷ []) (but_at a (1 ∷ []) f))))
two-taken n a b f s l m =
    below-taken n a f s (omega arith)
    ∙ ap (convolution (f a)) (below-taken n b (but_at a (1 ∷ []) f) (but-some a f s) m
    ∙ ap (λ e. convolution e (convolution_below n (but_at b (1 ∷ []) (but_at a (1 ∷ []) f)))) (at_other a (1 ∷ []) f b (λ e. omega arith)))

pub convolution-swapped : (n a b : ℕ) (f g : ℕ → List ℕ) → AllSome f → AllSome g → Swapped f g a b → a < b → b < n → convolution_below n g ≡ convolution_below n f
convolution-swapped n a b f g sf sg h l m =
    let rest = convolution_below n (but_at b (1 ∷ []) (but_at a (1 ∷ []) f)) in
    let some : 0 < length rest = some-below n _ (but-some b _ (but-some a f sf)) in
    two-taken n a b g sg l m
    ∙ ap₂ convolution h.0 (ap₂ convolution h.1 (below-same n _ _ (λ k kl. others_same (1 ∷ []) f g a b h k)))
    ∙ sym (convolution_assoc (f b) (f a) rest (sf b) (sf a) some)
    ∙ ap (λ e. convolution e rest) (convolution_comm (f b) (f a) (sf b) (sf a))
    ∙ convolution_assoc (f a) (f b) rest (sf a) (sf b) some
    ∙ sym (two-taken n a b f sf l m)

-- ---- the census, slot by slot

-- what a slot with this option gives to a ward on a day
abbrev pub slot_census : TableParts → ℕ → ℕ → ℕ → ℕ → List ℕ
slot_census t ward day slot option = convolution_all (map (those_present t) (slot_occurrences t ward day slot option))

patients-some : (t : TableParts) (j : ℕ) → IsTables t → 0 < length (block_of t j).patients
patients-some t j h = elim (cases_lt (j - 1) (length t.blocks)) [
  | inl known ↦ (All-get_or IsBlock t.blocks (j - 1) no_block known h.specialties.blocks_good).patients_good.some
  | inr other ↦ rw (get_or-eq_default t.blocks no_block {n = j - 1} other) (lit< tt)
]

present-some : (t : TableParts) (o : Occurrence) → IsTables t → 0 < length (those_present t o)
present-some t o h =
    let b = block_of t o.specialty in
    rw (length-thinned_by (presence b.parts b.stays o.age) (b.parts ^ o.age) b.patients) (patients-some t o.specialty h)

all-some : (t : TableParts) (os : List Occurrence) → IsTables t → 0 < length (convolution_all (map (those_present t) os))
all-some t [] h = lit< tt
all-some t (o ∷ os) h = convolution-some (those_present t o) (convolution_all (map (those_present t) os)) (present-some t o h) (all-some t os h)

convolution-append : (t : TableParts) (os ps : List Occurrence) → IsTables t
    → convolution_all (map (those_present t) (os ++ ps)) ≡ convolution (convolution_all (map (those_present t) os)) (convolution_all (map (those_present t) ps))
convolution-append t [] ps h = sym (convolution-unit_left _ (all-some t ps h))
convolution-append t (o ∷ os) ps h =
    ap (convolution (those_present t o)) (convolution-append t os ps h)
    ∙ sym (convolution_assoc (those_present t o) _ _ (present-some t o h) (all-some t os h) (all-some t ps h))

census-from : (t : TableParts) (ward day slot : ℕ) (options : List ℕ) → IsTables t
    → convolution_all (map (those_present t) (occurrences_from t ward day slot options))
    ≡ convolution_below (length options) (λ k. slot_census t ward day (slot + k) (option_at options k))
census-from t ward day slot [] h = refl
census-from t ward day slot (option ∷ options) h =
    convolution-append t (slot_occurrences t ward day slot option) (occurrences_from t ward day (slot + 1) options) h
    ∙ ap₂ convolution (ap (λ s. slot_census t ward day s option) (let e : slot ≡ slot + 0 = omega arith in e))
    (census-from t ward day (slot + 1) options h
    ∙ below-same (length options) _ _ (λ k l. ap (λ s. slot_census t ward day s (option_at options k)) (let e : slot + 1 + k ≡ slot + suc k = omega arith in e)))
    ∙ sym (below-first (length options) (λ k. slot_census t ward day (slot + k) (option_at (option ∷ options) k))
    (λ k. all-some t (slot_occurrences t ward day (slot + k) (option_at (option ∷ options) k)) h))

pub census-slots : (t : TableParts) (ward day : ℕ) (options : List ℕ) → IsTables t
    → census t ward day options ≡ convolution_below (length options) (λ k. slot_census t ward day k (option_at options k))
census-slots t ward day options h =
    census-from t ward day 0 options h
    ∙ below-same (length options) _ _ (λ k l. ap (λ s. slot_census t ward day s (option_at options k)) (let e : 0 + k ≡ k = omega arith in e))

pub slot-some : (t : TableParts) (ward day slot option : ℕ) → IsTables t → 0 < length (slot_census t ward day slot option)
slot-some t ward day slot option h = all-some t (slot_occurrences t ward day slot option) h
