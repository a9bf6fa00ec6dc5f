-- What the lists that are pushed stand for: slot by slot, and so occurrence by occurrence.
use Rattle.std.proofs.Common.{◌≡◌, ℕ, ◌+◌, ◌<◌, Bool, true, false, cond, List, [], ◌∷◌, ◌++◌, length, map, eqb, refl, sym, ap, subst, ◌∙◌}
use Rattle.std.specs.List.{filter}
use Rattle.std.proofs.lemmas.List.{map-append}
use Rattle.std.proofs.lemmas.List.Elements.{filter-append}
use Rattle.mss_model.specs.declared.parts.TableParts.{TableParts}
use Rattle.mss_model.specs.BlockAtAge.{BlockView, block_at_age}
use Rattle.mss_model.specs.Distribution.{convolution, convolution_all}
use Rattle.mss_model.specs.TableWords.{block_of, day_of}
use Rattle.mss_model.specs.Limits.{IsTables}
use Rattle.mss_model.specs.Occurrences.{lies_on, offset, offset_ages, Occurrence, slot_occurrences, occurrences_from}
use Rattle.mss_model.specs.Census.{those_present}
use Rattle.mss_model.specs.Movements.{discharged_at_age}
use Rattle.mss_model.proofs.ConvolutionSums.{AllPositive, convolution_all-append, positive-append}
use Rattle.mss_enclose.specs.Kept.{PartsStand}
use Rattle.mss_thin.specs.BlockAgesLaws.{age-stands}
use Rattle.mss_census.specs.declared.quantity.Quantity.{Quantity}
use Rattle.mss_census.specs.declared.quantity.Quantity.TheVariants.{Census, Admissions, Discharges}
use Rattle.mss_census.specs.WardLists.{quantity_lists, slot_parts, parts_from, one_at, block_lists, exact_of}
use Rattle.mss_census.specs.QuantityBlocksLaws.{age_terms, block_sums, BlockAdds, block-adds}
use Rattle.mss_census.specs.TableBlocksLaws.{block-good, lists-are, offset-lt}

-- what a slot adds to the ward on a day: the distributions of its ages, and their sum
abbrev pub slot_terms : Quantity → TableParts → ℕ → ℕ → ℕ → ℕ → List (List ℕ)
slot_terms q t w day slot option = cond (lies_on t.ward_of w option) (age_terms q t.days (block_of t option) (offset t.days day (day_of t slot))) []

abbrev pub terms_from : Quantity → TableParts → ℕ → ℕ → ℕ → List ℕ → List (List ℕ)
terms_from q t w day slot [] = []
terms_from q t w day slot (option ∷ options) = slot_terms q t w day slot option ++ terms_from q t w day (slot + 1) options

abbrev pub slot_sums : Quantity → TableParts → ℕ → ℕ → ℕ → ℕ → List (List ℕ)
slot_sums q t w day slot option = cond (lies_on t.ward_of w option) (block_sums q t.days (block_of t option) (offset t.days day (day_of t slot))) []

abbrev pub sums_from : Quantity → TableParts → ℕ → ℕ → ℕ → List ℕ → List (List ℕ)
sums_from q t w day slot [] = []
sums_from q t w day slot (option ∷ options) = slot_sums q t w day slot option ++ sums_from q t w day (slot + 1) options

-- what is so of the block of a slot's option
pub slot-adds : (q : Quantity) (t : TableParts) (day slot option : ℕ) → IsTables t
    → BlockAdds t.days (block_of t option) (offset t.days day (day_of t slot)) (one_at (block_lists q t.days (block_of t option)) (offset t.days day (day_of t slot)))
    (block_sums q t.days (block_of t option) (offset t.days day (day_of t slot))) (age_terms q t.days (block_of t option) (offset t.days day (day_of t slot)))
slot-adds q t day slot option h = block-adds q t.days (offset t.days day (day_of t slot)) (block_of t option) (block-good t option h) (offset-lt t.days day (day_of t slot) h.slots.days.0)

-- the parts of a slot are those of its block
pub slot-parts-are : (q : Quantity) (t : TableParts) (w day slot option : ℕ) → IsTables t → 0 < w
    → slot_parts (quantity_lists q t) w day slot option ≡ cond (lies_on t.ward_of w option) (one_at (block_lists q t.days (block_of t option)) (offset t.days day (day_of t slot))) []
slot-parts-are q t w day slot option h pos = found (lies_on t.ward_of w option) (λ l. ap (λ ls. one_at ls (offset t.days day (day_of t slot))) (lists-are q t w option h pos l))
  where
    found : {xs ys : List (List ℕ)} (b : Bool) → (b ≡ true → xs ≡ ys) → cond b xs [] ≡ cond b ys []
    found true f = f refl
    found false f = refl

stand-append : (ps es qs fs : List (List ℕ)) → PartsStand ps es → PartsStand qs fs → PartsStand (ps ++ qs) (es ++ fs)
stand-append [] [] qs fs h r = r
stand-append [] (e ∷ es) qs fs h r = absurd h
stand-append (p ∷ ps) [] qs fs h r = absurd h
stand-append (p ∷ ps) (e ∷ es) qs fs h r = (h.0, stand-append ps es qs fs h.1 r)

stand-cond : (b : Bool) (ps es : List (List ℕ)) → PartsStand ps es → PartsStand (cond b ps []) (cond b es [])
stand-cond true ps es h = h
stand-cond false ps es h = tt

pub slot-stands : (q : Quantity) (t : TableParts) (w day slot option : ℕ) → IsTables t → 0 < w
    → PartsStand (slot_parts (quantity_lists q t) w day slot option) (slot_sums q t w day slot option)
slot-stands q t w day slot option h pos =
    subst (λ ps. PartsStand ps (slot_sums q t w day slot option)) (sym (slot-parts-are q t w day slot option h pos))
    (stand-cond (lies_on t.ward_of w option) _ _ (slot-adds q t day slot option h).stands)

pub parts-stand : (q : Quantity) (t : TableParts) (w day slot : ℕ) (options : List ℕ) → IsTables t → 0 < w
    → PartsStand (parts_from (quantity_lists q t) w day slot options) (sums_from q t w day slot options)
parts-stand q t w day slot [] h pos = tt
parts-stand q t w day slot (option ∷ options) h pos =
    stand-append (slot_parts (quantity_lists q t) w day slot option) (slot_sums q t w day slot option) _ _ (slot-stands q t w day slot option h pos)
    (parts-stand q t w day (slot + 1) options h pos)

-- ---- slot by slot and occurrence by occurrence

sums-positive : (ps es : List (List ℕ)) → PartsStand ps es → AllPositive es
sums-positive [] [] h = tt
sums-positive [] (e ∷ es) h = absurd h
sums-positive (p ∷ ps) [] h = absurd h
sums-positive (p ∷ ps) (e ∷ es) h = (h.0.positive, sums-positive ps es h.1)

positive-cond : (b : Bool) (es : List (List ℕ)) → AllPositive es → AllPositive (cond b es [])
positive-cond true es h = h
positive-cond false es h = tt

terms-positive : (q : Quantity) (t : TableParts) (w day slot : ℕ) (options : List ℕ) → IsTables t → AllPositive (terms_from q t w day slot options)
terms-positive q t w day slot [] h = tt
terms-positive q t w day slot (option ∷ options) h =
    positive-append (slot_terms q t w day slot option) (terms_from q t w day (slot + 1) options)
    (positive-cond (lies_on t.ward_of w option) _ (slot-adds q t day slot option h).positive) (terms-positive q t w day (slot + 1) options h)

same-cond : (b : Bool) (xs ys : List (List ℕ)) → convolution_all xs ≡ convolution_all ys → convolution_all (cond b xs []) ≡ convolution_all (cond b ys [])
same-cond true xs ys e = e
same-cond false xs ys e = refl

pub slots-sum : (q : Quantity) (t : TableParts) (w day slot : ℕ) (options : List ℕ) → IsTables t → 0 < w
    → convolution_all (terms_from q t w day slot options) ≡ convolution_all (sums_from q t w day slot options)
slots-sum q t w day slot [] h pos = refl
slots-sum q t w day slot (option ∷ options) h pos =
    let adds = slot-adds q t day slot option h in
    let y : Bool = lies_on t.ward_of w option in
    convolution_all-append (slot_terms q t w day slot option) (terms_from q t w day (slot + 1) options)
    (positive-cond y _ adds.positive) (terms-positive q t w day (slot + 1) options h)
    ∙ ap (convolution (convolution_all (slot_terms q t w day slot option))) (slots-sum q t w day (slot + 1) options h pos)
    ∙ ap (λ a. convolution a (convolution_all (sums_from q t w day (slot + 1) options))) (sym (same-cond y _ _ adds.same))
    ∙ sym (convolution_all-append (slot_sums q t w day slot option) (sums_from q t w day (slot + 1) options)
    (positive-cond y _ (sums-positive _ _ adds.stands)) (sums-positive _ _ (parts-stand q t w day (slot + 1) options h pos)))

-- the occurrences that count, each as its distribution
map-cond : (b : Bool) (f : Occurrence → List ℕ) (xs : List Occurrence) → map f (cond b xs []) ≡ cond b (map f xs) []
map-cond true f xs = refl
map-cond false f xs = refl

presences : (t : TableParts) (f : BlockView → ℕ → List ℕ) (j : ℕ) (ns : List ℕ)
    → map (λ (o : Occurrence). f (block_of t o.specialty) o.age) (map (λ n. record { specialty = j; age = n }) ns) ≡ map (f (block_of t j)) ns
presences t f j [] = refl
presences t f j (n ∷ ns) = ap (λ r. f (block_of t j) n ∷ r) (presences t f j ns)

-- where all ages count
abbrev pub every_term : TableParts → (BlockView → ℕ → List ℕ) → ℕ → ℕ → ℕ → List ℕ → List (List ℕ)
every_term t f w day slot options = map (λ (o : Occurrence). f (block_of t o.specialty) o.age) (occurrences_from t w day slot options)

pub all-positive : (t : TableParts) (os : List Occurrence) → IsTables t → AllPositive (map (those_present t) os)
all-positive t [] h = tt
all-positive t (o ∷ os) h = ((age-stands (block_of t o.specialty) o.age (block-good t o.specialty h)).positive, all-positive t os h)

every-slot : (t : TableParts) (f : BlockView → ℕ → List ℕ) (w day slot option : ℕ) (options : List ℕ)
    → every_term t f w day slot (option ∷ options)
    ≡ cond (lies_on t.ward_of w option) (map (f (block_of t option)) (offset_ages t.days (length (block_of t option).stays) (offset t.days day (day_of t slot)))) []
    ++ every_term t f w day (slot + 1) options
every-slot t f w day slot option options =
    let ns : List ℕ = offset_ages t.days (length (block_of t option).stays) (offset t.days day (day_of t slot)) in
    let g : Occurrence → List ℕ = λ o. f (block_of t o.specialty) o.age in
    let y : Bool = lies_on t.ward_of w option in
    map-append (λ (o : Occurrence). f (block_of t o.specialty) o.age) (slot_occurrences t w day slot option) (occurrences_from t w day (slot + 1) options)
    ∙ ap (λ r. r ++ every_term t f w day (slot + 1) options)
    (map-cond y g (map (λ n. record { specialty = option; age = n }) ns) ∙ ap (λ r. cond y r []) (presences t f option ns))

census-terms : (t : TableParts) (w day slot : ℕ) (options : List ℕ) → every_term t block_at_age w day slot options ≡ terms_from Census t w day slot options
census-terms t w day slot [] = refl
census-terms t w day slot (option ∷ options) = every-slot t block_at_age w day slot option options ∙ ap (λ r. slot_terms Census t w day slot option ++ r) (census-terms t w day (slot + 1) options)

discharge-terms : (t : TableParts) (w day slot : ℕ) (options : List ℕ) → every_term t discharged_at_age w day slot options ≡ terms_from Discharges t w day slot options
discharge-terms t w day slot [] = refl
discharge-terms t w day slot (option ∷ options) = every-slot t discharged_at_age w day slot option options ∙ ap (λ r. slot_terms Discharges t w day slot option ++ r) (discharge-terms t w day (slot + 1) options)

-- where the first day alone counts
first-days : (t : TableParts) (j : ℕ) (ns : List ℕ)
    → map (those_present t) (filter (λ (o : Occurrence). eqb o.age 0) (map (λ n. record { specialty = j; age = n }) ns)) ≡ map (block_at_age (block_of t j)) (filter (λ n. eqb n 0) ns)
first-days t j [] = refl
first-days t j (n ∷ ns) = first (eqb n 0) n (filter (λ (o : Occurrence). eqb o.age 0) (map (λ n. record { specialty = j; age = n }) ns)) (filter (λ n. eqb n 0) ns) (first-days t j ns)
  where
    first : (b : Bool) (n : ℕ) (os : List Occurrence) (ms : List ℕ) → map (those_present t) os ≡ map (block_at_age (block_of t j)) ms
        → map (those_present t) (cond b (record { specialty = j; age = n } ∷ os) os) ≡ map (block_at_age (block_of t j)) (cond b (n ∷ ms) ms)
    first true n os ms e = ap (λ r. block_at_age (block_of t j) n ∷ r) e
    first false n os ms e = e

come-cond : (t : TableParts) (b : Bool) (xs : List Occurrence)
    → map (those_present t) (filter (λ (o : Occurrence). eqb o.age 0) (cond b xs [])) ≡ cond b (map (those_present t) (filter (λ (o : Occurrence). eqb o.age 0) xs)) []
come-cond t true xs = refl
come-cond t false xs = refl

admission-terms : (t : TableParts) (w day slot : ℕ) (options : List ℕ)
    → map (those_present t) (filter (λ (o : Occurrence). eqb o.age 0) (occurrences_from t w day slot options)) ≡ terms_from Admissions t w day slot options
admission-terms t w day slot [] = refl
admission-terms t w day slot (option ∷ options) =
    let ns : List ℕ = offset_ages t.days (length (block_of t option).stays) (offset t.days day (day_of t slot)) in
    let here : List Occurrence = slot_occurrences t w day slot option in
    let later : List Occurrence = occurrences_from t w day (slot + 1) options in
    let y : Bool = lies_on t.ward_of w option in
    ap (map (those_present t)) (filter-append (λ (o : Occurrence). eqb o.age 0) here later)
    ∙ map-append (those_present t) (filter (λ (o : Occurrence). eqb o.age 0) here) (filter (λ (o : Occurrence). eqb o.age 0) later)
    ∙ ap (λ r. r ++ map (those_present t) (filter (λ (o : Occurrence). eqb o.age 0) later))
    (come-cond t y (map (λ n. record { specialty = option; age = n }) ns) ∙ ap (λ r. cond y r []) (first-days t option ns))
    ∙ ap (λ r. slot_terms Admissions t w day slot option ++ r) (admission-terms t w day (slot + 1) options)

pub exact-is : (q : Quantity) (t : TableParts) (w day : ℕ) (options : List ℕ) → exact_of q t w day options ≡ convolution_all (terms_from q t w day 0 options)
exact-is Census t w day options = ap convolution_all (census-terms t w day 0 options)
exact-is Admissions t w day options = ap convolution_all (admission-terms t w day 0 options)
exact-is Discharges t w day options = ap convolution_all (discharge-terms t w day 0 options)
