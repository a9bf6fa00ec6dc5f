-- The lists of one block, of each quantity: what they stand for, what they lack and how long they are.
use Rattle.std.proofs.Common.{◌≡◌, ◌≢◌, ℕ, zero, suc, ◌+◌, ◌*◌, ◌-◌, ◌%◌, ◌<◌, ◌≤◌, Bool, true, false, cond, List, [], ◌∷◌, ◌++◌, length, map, get_or, sum_by, eqb, eq-eqb, ne_eqb, refl, sym, ap, subst, ◌∙◌, arith, append-nil, le_trans}
use Rattle.std.specs.Prelude.{slice_get, Some}
use Rattle.std.specs.List.{filter}
use Rattle.std.proofs.lemmas.List.Elements.{filter-append}
use Rattle.std.proofs.lemmas.List.FromFn.{length-map-range_with_len, get_or-map-range_with_len}
use Rattle.mss_model.specs.BlockAtAge.{BlockView, IsBlock, block_at_age}
use Rattle.mss_model.specs.Movements.{discharged_at_age}
use Rattle.mss_model.specs.Distribution.{convolution_all}
use Rattle.mss_model.specs.Occurrences.{offset_ages}
use Rattle.mss_model.proofs.ConvolutionSums.{AllPositive, nonempty-all, convolution-unit_right}
use Rattle.mss_model.proofs.OffsetAges.{age_count, age_count-le, ages-more}
use Rattle.mss_enclose.specs.Kept.{rest_of, PartsStand}
use Rattle.mss_thin.specs.BlockLists.{kept_at_age, kept_departures}
use Rattle.mss_thin.specs.SteadyLists.{offset_list, offset_lists, offset_sum}
use Rattle.mss_thin.specs.BlockAgesLaws.{AgesStand, present-ages, leaving-ages, age-stands, age-rest, age-long}
use Rattle.mss_thin.specs.OffsetListsLaws.{offset-stands, offset-long, offset-rest}
use Rattle.mss_census.specs.declared.quantity.Quantity.{Quantity}
use Rattle.mss_census.specs.declared.quantity.Quantity.TheVariants.{Census, Admissions, Discharges}
use Rattle.mss_census.specs.WardLists.{block_lists, one_at}

-- ---- the list at a place

pub one_at-get : (lists : List (List ℕ)) (k : ℕ) (p : List ℕ) → Some p ≡ slice_get lists k → one_at lists k ≡ p ∷ []
one_at-get [] k p e = absurd (cc e)
one_at-get (x ∷ xs) zero p e = let same : p ≡ x = cc e in ap (λ q. q ∷ []) (sym same)
one_at-get (x ∷ xs) (suc k) p e = one_at-get xs k p e

pub one_at-past : (lists : List (List ℕ)) (k : ℕ) → length lists ≤ k → one_at lists k ≡ []
one_at-past [] k l = refl
one_at-past (x ∷ xs) zero l = absurd (omega (arith, l))
one_at-past (x ∷ xs) (suc k) l = one_at-past xs k (omega (arith, l))

one_at-inside : (lists : List (List ℕ)) (k : ℕ) → k < length lists → one_at lists k ≡ get_or lists k [] ∷ []
one_at-inside [] k l = absurd (omega (arith, l))
one_at-inside (x ∷ xs) zero l = refl
one_at-inside (x ∷ xs) (suc k) l = one_at-inside xs k (omega (arith, l))

one_at-offset : (kept : ℕ → List ℕ) (days ages o : ℕ) → o < days → one_at (offset_lists kept days ages) o ≡ offset_list kept days ages o ∷ []
one_at-offset kept days ages o l =
    one_at-inside (offset_lists kept days ages) o (omega (arith, length-map-range_with_len (offset_list kept days ages) 0 days, l))
    ∙ ap (λ p. p ∷ []) (get_or-map-range_with_len (offset_list kept days ages) 0 days o o [] l (omega arith))

-- ---- the ages of an offset on which patients come

first-cond : (b : Bool) (n : ℕ) → filter (λ k. eqb k 0) (cond b (suc n ∷ []) []) ≡ []
first-cond true n = ap (λ c. cond c (suc n ∷ []) []) (ne_eqb (suc n) 0 (λ e. omega (arith, e)))
first-cond false n = refl

first-later : (days o m : ℕ) → filter (λ k. eqb k 0) (offset_ages days (suc m) o) ≡ filter (λ k. eqb k 0) (offset_ages days 1 o)
first-later days o zero = refl
first-later days o (suc m) =
    ap (filter (λ k. eqb k 0)) (ages-more days (suc m) o)
    ∙ filter-append (λ k. eqb k 0) (offset_ages days (suc m) o) (cond (eqb (suc m % days) o) (suc m ∷ []) [])
    ∙ ap (λ r. filter (λ k. eqb k 0) (offset_ages days (suc m) o) ++ r) (first-cond (eqb (suc m % days) o) m)
    ∙ append-nil (filter (λ k. eqb k 0) (offset_ages days (suc m) o)) ∙ first-later days o m

first-age : (days o ages : ℕ) → 1 ≤ ages → filter (λ k. eqb k 0) (offset_ages days ages o) ≡ filter (λ k. eqb k 0) (cond (eqb (0 % days) o) (0 ∷ []) [])
first-age days o zero l = absurd (omega (arith, l))
first-age days o (suc m) l = first-later days o m ∙ ap (filter (λ k. eqb k 0)) (ages-more days 0 o)

-- ---- what a block adds at an offset

-- the exact distributions of the ages that count
abbrev pub age_terms : Quantity → ℕ → BlockView → ℕ → List (List ℕ)
age_terms Census days b o = map (block_at_age b) (offset_ages days (length b.stays) o)
age_terms Admissions days b o = map (block_at_age b) (filter (λ n. eqb n 0) (offset_ages days (length b.stays) o))
age_terms Discharges days b o = map (discharged_at_age b) (offset_ages days (length b.stays) o)

-- their sum, as one distribution or none
abbrev pub block_sums : Quantity → ℕ → BlockView → ℕ → List (List ℕ)
block_sums Census days b o = offset_sum (block_at_age b) days (length b.stays) o ∷ []
block_sums Admissions days b o = one_at (block_at_age b 0 ∷ []) o
block_sums Discharges days b o = offset_sum (discharged_at_age b) days (length b.stays) o ∷ []

-- What is so of the lists of a block at an offset: they stand for the sums of its ages, of which there is at most one,
-- lack little for each age and aren't too long.
pub record BlockAdds (days : ℕ) (b : BlockView) (o : ℕ) (lists sums terms : List (List ℕ)) : Type 0 where
  pub stands : PartsStand lists sums
  pub same : convolution_all sums ≡ convolution_all terms
  pub positive : AllPositive terms
  pub one : length lists ≤ 1
  pub steps : sum_by (λ p. length p - 1) lists ≤ 16 * age_count days (length b.stays) o
  pub lacks : sum_by rest_of lists ≤ 11118 * age_count days (length b.stays) o

all-positive : (kept exact : ℕ → List ℕ) (ns : List ℕ) → AgesStand kept exact → AllPositive (map exact ns)
all-positive kept exact [] h = tt
all-positive kept exact (n ∷ ns) h = ((h.stands n).positive, all-positive kept exact ns h)

offset-adds : (kept exact : ℕ → List ℕ) (days o : ℕ) (b : BlockView) → IsBlock b → AgesStand kept exact → o < days
    → BlockAdds days b o (one_at (offset_lists kept days (length b.stays)) o) (offset_sum exact days (length b.stays) o ∷ []) (map exact (offset_ages days (length b.stays) o))
offset-adds kept exact days o b h ages l =
    let ns : List ℕ = offset_ages days (length b.stays) o in
    let pos = all-positive kept exact ns ages in
    rw (one_at-offset kept days (length b.stays) o l) (record {
      stands = (offset-stands kept exact days (length b.stays) o ages, tt);
      same = convolution-unit_right (convolution_all (map exact ns)) (nonempty-all (map exact ns) pos);
      positive = pos;
      one = omega arith;
      steps = omega (arith, offset-long kept exact days (length b.stays) o ages);
      lacks = omega (arith, offset-rest kept exact days (length b.stays) o ages h.stays_good.few);
    })

-- patients come on the day of the slot, and on no other
come-on-day : (days : ℕ) (b : BlockView) → IsBlock b → 1 ≤ days
    → BlockAdds days b 0 (kept_at_age b 0 ∷ []) (block_at_age b 0 ∷ []) (map (block_at_age b) (filter (λ n. eqb n 0) (offset_ages days (length b.stays) 0)))
come-on-day days b h some =
    let zero-rest : 0 % days ≡ 0 = omega arith in
    let ns : filter (λ n. eqb n 0) (offset_ages days (length b.stays) 0) ≡ 0 ∷ []
    = first-age days 0 (length b.stays) h.stays_good.some ∙ ap (λ c. filter (λ k. eqb k 0) (cond c (0 ∷ []) [])) (eq-eqb (0 % days) 0 zero-rest) in
    let first : age_count days 1 0 ≡ 1 = ap (length {A = ℕ}) (ages-more days 0 0) ∙ ap (λ c. length {A = ℕ} (cond c (0 ∷ []) [])) (eq-eqb (0 % days) 0 zero-rest) in
    let e : length b.stays - 1 + 1 ≡ length b.stays = omega (arith, h.stays_good.some) in
    let count : 1 ≤ age_count days (length b.stays) 0 = subst (λ n. 1 ≤ age_count days n 0) e (le_trans (omega (arith, first)) (age_count-le days 0 1 (length b.stays - 1))) in
    rw ns (record {
      stands = (age-stands b 0 h, tt);
      same = refl;
      positive = ((age-stands b 0 h).positive, tt);
      one = omega arith;
      steps = omega (arith, age-long b 0 h, count);
      lacks = omega (arith, age-rest b 0 h (omega arith), count);
    })

come-on-no-other : (days o : ℕ) (b : BlockView) → IsBlock b → 1 ≤ days → o ≢ 0
    → BlockAdds days b o [] [] (map (block_at_age b) (filter (λ n. eqb n 0) (offset_ages days (length b.stays) o)))
come-on-no-other days o b h some other =
    let zero-rest : 0 % days ≡ 0 = omega arith in
    let ns : filter (λ n. eqb n 0) (offset_ages days (length b.stays) o) ≡ []
    = first-age days o (length b.stays) h.stays_good.some
    ∙ ap (λ c. filter (λ k. eqb k 0) (cond c (0 ∷ []) [])) (ne_eqb (0 % days) o (λ z. other (sym z ∙ zero-rest))) in
    rw ns (record { stands = tt; same = refl; positive = tt; one = omega arith; steps = omega arith; lacks = omega arith })

come : (days o : ℕ) (b : BlockView) → IsBlock b → 1 ≤ days
    → BlockAdds days b o (one_at (kept_at_age b 0 ∷ []) o) (one_at (block_at_age b 0 ∷ []) o) (map (block_at_age b) (filter (λ n. eqb n 0) (offset_ages days (length b.stays) o)))
come days zero b h some = come-on-day days b h some
come days (suc o) b h some = come-on-no-other days (suc o) b h some (λ z. omega (arith, z))

pub block-adds : (q : Quantity) (days o : ℕ) (b : BlockView) → IsBlock b → o < days
    → BlockAdds days b o (one_at (block_lists q days b) o) (block_sums q days b o) (age_terms q days b o)
block-adds Census days o b h l = offset-adds (kept_at_age b) (block_at_age b) days o b h (present-ages b h) l
block-adds Admissions days o b h l = come days o b h (omega arith)
block-adds Discharges days o b h l = offset-adds (kept_departures b) (discharged_at_age b) days o b h (leaving-ages b h) l
