-- The parts that a census pushes, slot by slot.
use Rattle.std.proofs.Common.{◌≡◌, ℕ, zero, suc, ◌+◌, List, [], ◌∷◌, ◌++◌, length, replicate, refl, sym, ap, ◌∙◌, arith, append_assoc, append-nil}
use Rattle.std.proofs.lemmas.List.{length-append, length-replicate}
use Rattle.mss_enclose.specs.Unit.{unit}
use Rattle.mss_enclose.specs.Kept.{joined_all}
use Rattle.mss_enclose.specs.ManyPushesLaws.{joined-more}
use Rattle.mss_census.specs.WardLists.{WardLists, slot_parts, parts_from, census_list}

pub parts-append : (ls : WardLists) (w t s : ℕ) (xs ys : List ℕ) → parts_from ls w t s (xs ++ ys) ≡ parts_from ls w t s xs ++ parts_from ls w t (s + length xs) ys
parts-append ls w t s [] ys = let e : s + 0 ≡ s = omega arith in rw e refl
parts-append ls w t s (x ∷ xs) ys =
    let e : s + 1 + length xs ≡ s + length (x ∷ xs) = omega arith in
    ap (λ r. slot_parts ls w t s x ++ r) (parts-append ls w t (s + 1) xs ys ∙ ap (λ k. parts_from ls w t (s + 1) xs ++ parts_from ls w t k ys) e)
    ∙ sym (append_assoc (slot_parts ls w t s x) (parts_from ls w t (s + 1) xs) (parts_from ls w t (s + length (x ∷ xs)) ys))

pub parts-idle : (ls : WardLists) (w t s n : ℕ) → parts_from ls w t s (replicate n 0) ≡ []
parts-idle ls w t s zero = refl
parts-idle ls w t s (suc n) = parts-idle ls w t (s + 1) n

-- the census after a slot, where the slots between are idle
pub census-more : (j : List ℕ → List ℕ → List ℕ) (ls : WardLists) (w t slot option : ℕ) (options : List ℕ) (gap : ℕ) → length options + gap ≡ slot
    → census_list j ls w t (options ++ replicate gap 0 ++ option ∷ []) ≡ joined_all j (census_list j ls w t options) (slot_parts ls w t slot option)
census-more j ls w t slot option options gap e =
    let before : parts_from ls w t 0 (options ++ replicate gap 0) ≡ parts_from ls w t 0 options =
    parts-append ls w t 0 options (replicate gap 0) ∙ ap (λ r. parts_from ls w t 0 options ++ r) (parts-idle ls w t (0 + length options) gap) ∙ append-nil (parts_from ls w t 0 options) in
    let here : 0 + length (options ++ replicate gap 0) ≡ slot = omega (arith, length-append options (replicate gap 0), length-replicate {A = ℕ} gap 0) in
    let all : parts_from ls w t 0 (options ++ replicate gap 0 ++ option ∷ []) ≡ parts_from ls w t 0 options ++ slot_parts ls w t slot option =
    parts-append ls w t 0 (options ++ replicate gap 0) (option ∷ [])
    ∙ ap (λ r. r ++ parts_from ls w t (0 + length (options ++ replicate gap 0)) (option ∷ [])) before
    ∙ ap (λ r. parts_from ls w t 0 options ++ r) (append-nil (slot_parts ls w t (0 + length (options ++ replicate gap 0)) option) ∙ ap (λ s. slot_parts ls w t s option) here) in
    ap (joined_all j (unit ∷ [])) all ∙ joined-more j (unit ∷ []) (parts_from ls w t 0 options) (slot_parts ls w t slot option)
