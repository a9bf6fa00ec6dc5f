-- The first largest number of some places, and of one place more.
use Rattle.std.proofs.Common.{◌≡◌, ◌≢◌, ◌<◌, ◌≤◌, ◌⊎◌, inl, inr, max, ℕ, suc, Bool, true, false, List, [], ◌∷◌, ◌++◌, map, subst, ap, refl, sym, ◌∙◌, arith, nat_le}
use Rattle.std.specs.Prelude.{if◌then◌else◌}
use Rattle.std.specs.List.{All}
use Rattle.std.proofs.lemmas.Bool.Decides.{nat_tests}
use Rattle.mss_model.specs.declared.parts.TableParts.{TableParts}
use Rattle.mss_model.specs.TableWords.{is_watched}
use Rattle.mss_pctl.specs.Peaks.{Place, day_places, largest}
use Rattle.mss_pctl.specs.declared.first_largest.FirstLargest.{FirstLargest}
use Rattle.mss_pctl.specs.FirstLargest.{at_place, larger, first_largest, IsFirstLargest}

larger-assoc : (a b c : FirstLargest) → larger a (larger b c) ≡ larger (larger a b) c
larger-assoc a b c = grind (arith, nat_tests)

larger-none : (value : Place → ℕ) (a : FirstLargest) → larger a (first_largest value []) ≡ a
larger-none value a = grind (arith, nat_tests)

first-more : (value : Place → ℕ) (p q : Place) (ps : List Place) → first_largest value (p ∷ (ps ++ q ∷ [])) ≡ larger (first_largest value (p ∷ ps)) (at_place value q)
first-more value p q [] = ap (larger (at_place value p)) (larger-none value (at_place value q)) ∙ ap (λ z. larger z (at_place value q)) (sym (larger-none value (at_place value p)))
first-more value p q (r ∷ ps) =
    ap (larger (at_place value p)) (first-more value r q ps)
    ∙ larger-assoc (at_place value p) (first_largest value (r ∷ ps)) (at_place value q)

larger-right : (a b : FirstLargest) → a.number < b.number → larger a b ≡ b
larger-right a b h = grind (arith, nat_tests)

larger-left : (a b : FirstLargest) → b.number ≤ a.number → larger a b ≡ a
larger-left a b h = grind (arith, nat_tests)

no-more : (ps : List Place) (q : Place) → ps ++ q ∷ [] ≡ [] → ⊥
no-more [] q e = cc
no-more (p ∷ ps) q e = cc

-- the new place is taken: there was none before, or its value is larger than all before
pub place-taken : (value : Place → ℕ) (ps : List Place) (b : FirstLargest) (q : Place) → 0 < q.ward → IsFirstLargest value ps b → (b.ward ≡ 0) ⊎ (b.number < value q)
    → IsFirstLargest value (ps ++ q ∷ []) (at_place value q)
place-taken value ps b q pos s (inl e) =
    let F : List Place → Type 0 = λ z. at_place value q ≡ first_largest value (z ++ q ∷ []) in
    record { is = subst F (sym (s.none e)) (sym (larger-none value (at_place value q))); none = λ w. absurd (omega arith) }
place-taken value [] b q pos s (inr h) =
    record { is = sym (larger-none value (at_place value q)); none = λ w. absurd (omega arith) }
place-taken value (p ∷ ps) b q pos s (inr h) =
    record {
      is = sym (larger-right (first_largest value (p ∷ ps)) (at_place value q) (let n = ap (λ (z : FirstLargest). z.number) s.is in omega (arith, n))) ∙ sym (first-more value p q ps);
      none = λ w. absurd (omega arith);
    }

-- the new place isn't taken
pub place-left : (value : Place → ℕ) (ps : List Place) (b : FirstLargest) (q : Place) → IsFirstLargest value ps b → b.ward ≢ 0 → value q ≤ b.number
    → IsFirstLargest value (ps ++ q ∷ []) b
place-left value [] b q s some h = absurd (some (ap (λ (z : FirstLargest). z.ward) s.is))
place-left value (p ∷ ps) b q s some h =
    record {
      is = s.is ∙ sym (larger-left (first_largest value (p ∷ ps)) (at_place value q) (let n = ap (λ (z : FirstLargest). z.number) s.is in omega (arith, n))) ∙ sym (first-more value p q ps);
      none = λ w. absurd (some w);
    }

-- a watched ward has a place on each day
pub watched-day : (tables : TableParts) (ward day : ℕ) → is_watched tables ward ≡ true → day_places tables ward day ≡ record { ward = ward; day = day } ∷ []
watched-day tables ward day e = rw e refl

-- ---- its place is one of the places, and has its number

pub record IsFound (value : Place → ℕ) (P : Place → Type 0) (b : FirstLargest) : Type 0 where
  pub place : P (record { ward = b.ward; day = b.day })
  pub there : b.number ≡ value (record { ward = b.ward; day = b.day })

one-of : (value : Place → ℕ) (P : Place → Type 0) (test : Bool) (a b : FirstLargest) → IsFound value P a → IsFound value P b → IsFound value P (if test then a else b)
one-of value P true a b f g = f
one-of value P false a b f g = g

pub first-found : (value : Place → ℕ) (P : Place → Type 0) (p : Place) (ps : List Place) → All P (p ∷ ps) → IsFound value P (first_largest value (p ∷ ps))
first-found value P p [] h =
    let F : FirstLargest → Type 0 = λ b. IsFound value P b in
    subst F (sym (larger-none value (at_place value p))) (record { place = h 0 p (omega arith); there = refl })
first-found value P p (q ∷ ps) h =
    one-of value P (nat_le (first_largest value (q ∷ ps)).number (value p)) (at_place value p) (first_largest value (q ∷ ps))
    (record { place = h 0 p (omega arith); there = refl }) (first-found value P q ps (λ k d l. h (suc k) d (omega arith)))

-- of some places
pub found-among : (value : Place → ℕ) (P : Place → Type 0) (ps : List Place) → (ps ≡ [] → ⊥) → All P ps → IsFound value P (first_largest value ps)
found-among value P [] some h = absurd (some refl)
found-among value P (p ∷ ps) some h = first-found value P p ps h

-- its number is the largest
larger-number : (a b : FirstLargest) → (larger a b).number ≡ max a.number b.number
larger-number a b = pick (nat_le b.number a.number) refl
  where
    pick : (test : Bool) → nat_le b.number a.number ≡ test → (if test then a else b).number ≡ max a.number b.number
    pick true e = (let h : b.number ≤ a.number = grind (arith, nat_tests) in omega arith)
    pick false e = (let h : a.number < b.number = grind (arith, nat_tests) in omega arith)

pub first-number : (value : Place → ℕ) (ps : List Place) → (first_largest value ps).number ≡ largest (map value ps)
first-number value [] = refl
first-number value (p ∷ ps) = larger-number (at_place value p) (first_largest value ps) ∙ ap (max (value p)) (first-number value ps)
