-- How many ages fall on an offset, and sums over them.
use Rattle.std.proofs.Common.{◌≡◌, ℕ, zero, suc, ◌+◌, ◌*◌, ◌%◌, ◌<◌, ◌≤◌, Bool, true, false, cond, List, [], ◌∷◌, ◌++◌, length, map, sum_by, eqb, refl, sym, ap, ◌∙◌, arith, le_refl}
use Rattle.std.specs.List.{range_with_len, filter}
use Rattle.std.proofs.lemmas.List.{length-append}
use Rattle.std.proofs.lemmas.List.Sums.{sum_by-append}
use Rattle.std.proofs.lemmas.List.FromFn.{filter_of_map_range_with_len_more}
use Rattle.mss_model.specs.Occurrences.{offset_ages}

map-self : (xs : List ℕ) → map (λ x. x) xs ≡ xs
map-self [] = refl
map-self (x ∷ xs) = ap (λ r. x ∷ r) (map-self xs)

-- one age more
pub ages-more : (days n o : ℕ) → offset_ages days (suc n) o ≡ offset_ages days n o ++ cond (eqb (n % days) o) (n ∷ []) []
ages-more days n o =
    let p : ℕ → Bool = λ n. eqb (n % days) o in
    let e : suc n ≡ n + 1 = omega arith in
    ap (λ m. filter (λ n. eqb (n % days) o) (range_with_len 0 m)) e
    ∙ ap (filter (λ n. eqb (n % days) o)) (sym (map-self (range_with_len 0 (n + 1))))
    ∙ filter_of_map_range_with_len_more (λ n. eqb (n % days) o) (λ x. x) 0 n n (omega arith)
    ∙ ap (λ r. filter (λ n. eqb (n % days) o) r ++ cond (eqb (n % days) o) (n ∷ []) []) (map-self (range_with_len 0 n))

-- how many ages below `ages` fall on an offset
abbrev pub age_count : ℕ → ℕ → ℕ → ℕ
age_count days ages o = length (offset_ages days ages o)

abbrev pub hit : ℕ → ℕ → ℕ → ℕ
hit days n o = cond (eqb (n % days) o) 1 0

length-cond : (b : Bool) (n : ℕ) → length (cond b (n ∷ []) []) ≡ cond b 1 0
length-cond true n = refl
length-cond false n = refl

pub age_count-more : (days n o : ℕ) → age_count days (suc n) o ≡ age_count days n o + hit days n o
age_count-more days n o =
    rw (ages-more days n o, length-append (offset_ages days n o) (cond (eqb (n % days) o) (n ∷ []) []), length-cond (eqb (n % days) o) n) refl

pub age_count-le : (days o m d : ℕ) → age_count days m o ≤ age_count days (d + m) o
age_count-le days o m zero = let s : 0 + m ≡ m = omega arith in rw s (le_refl (age_count days m o))
age_count-le days o m (suc d) = let e : age_count days (suc (d + m)) o ≡ age_count days (d + m) o + hit days (d + m) o = age_count-more days (d + m) o in
    let s : suc d + m ≡ suc (d + m) = omega arith in
    rw s (omega (arith, e, age_count-le days o m d))

-- what holds of each age bounds a sum over the ages of an offset
sum-cond : (b : Bool) (r : ℕ → ℕ) (n c : ℕ) → r n ≤ c → sum_by r (cond b (n ∷ []) []) ≤ c * cond b 1 0
sum-cond true r n c h = omega (arith, h)
sum-cond false r n c h = omega arith

pub sum-ages : (days o c : ℕ) (r : ℕ → ℕ) (ages : ℕ) → ((n : ℕ) → n < ages → r n ≤ c) → sum_by r (offset_ages days ages o) ≤ c * age_count days ages o
sum-ages days o c r zero h = omega arith
sum-ages days o c r (suc n) h =
    let e : age_count days (suc n) o ≡ age_count days n o + hit days n o = age_count-more days n o in
    rw (e, ages-more days n o, sum_by-append r (offset_ages days n o) (cond (eqb (n % days) o) (n ∷ []) []))
    (omega (arith, sum-ages days o c r n (λ k l. h k (omega arith)), sum-cond (eqb (n % days) o) r n c (h n (omega arith))))

pub hit-le : (b : Bool) → cond b 1 0 ≤ 1
hit-le true = omega arith
hit-le false = omega arith

pub age_count-within : (days o ages : ℕ) → age_count days ages o ≤ ages
age_count-within days o zero = omega arith
age_count-within days o (suc n) =
    let e : age_count days (suc n) o ≡ age_count days n o + hit days n o = age_count-more days n o in
    omega (arith, e, age_count-within days o n, hit-le (eqb (n % days) o))
