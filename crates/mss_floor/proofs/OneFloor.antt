-- One push of a floor, or none.
use Rattle.std.proofs.Common.{◌≡◌, ℕ, zero, suc, ◌+◌, ◌-◌, ◌<◌, ◌≤◌, ◌==◌, ◌⊎◌, inl, inr, Bool, true, false, List, [], ◌∷◌, ◌++◌, length, map, get_or, replicate, min, refl, sym, ap, ap₂, ◌∙◌, arith, le-leb}
use Rattle.std.specs.Prelude.{if◌then◌else◌}
use Rattle.std.specs.List.{flat_map, range_with_len}
use Rattle.std.proofs.lemmas.List.{map-append}
use Rattle.mss_model.specs.Occurrences.{lies_on}
use Rattle.mss_model.proofs.LeastNumber.{leb-over}
use Rattle.mss_enclose.specs.Kept.{joined_all}
use Rattle.mss_floor.specs.FlooredLists.{fitting}

-- no floor is pushed any more
pub stopped : (joined : List ℕ → List ℕ → List ℕ) (most n : ℕ) (a floor : List ℕ) (fs : List (List ℕ)) → (most ≡ 0) ⊎ (15362 < n + length floor)
    → joined_all joined a (fitting most n (floor ∷ fs)) ≡ joined_all joined a (fitting 0 n fs)
stopped joined zero n a floor fs h = refl
stopped joined (suc most) n a floor fs (inl e) = absurd (omega (arith, e))
stopped joined (suc most) n a floor fs (inr l) = rw (leb-over (n + length floor) 15362 l) refl

-- one floor is pushed
pub pushed : (joined : List ℕ → List ℕ → List ℕ) (most left : ℕ) (a b floor : List ℕ) (fs : List (List ℕ)) → 0 < most → length a + length floor ≤ 15362
    → b ≡ joined a floor → length (joined a floor) ≡ length a + length floor - 1 → left ≡ most - 1
    → joined_all joined a (fitting most (length a) (floor ∷ fs)) ≡ joined_all joined b (fitting left (length b) fs)
pushed joined zero left a b floor fs some fits same len e = absurd (omega arith)
pushed joined (suc most) left a b floor fs some fits same len e =
    let n : length a + length floor - 1 ≡ length b = sym len ∙ ap length (sym same) in
    let m : most ≡ left = omega (arith, e) in
    rw (le-leb (length a + length floor) 15362 fits)
    (ap₂ (λ l k. joined_all joined (joined a floor) (fitting k l fs)) n m ∙ ap (λ c. joined_all joined c (fitting left (length b) fs)) (sym same))

-- ---- copies of one floor, and the floors of one specialty

pub one-copy : (W : List (List ℕ) → List ℕ) (joined : List ℕ → List ℕ → List ℕ) (a b floor : List ℕ) (left rest count i : ℕ) → i < count
    → ((fs : List (List ℕ)) → W fs ≡ joined_all joined a (fitting left (length a) (replicate (count - i) floor ++ fs)))
    → ((fs : List (List ℕ)) → joined_all joined a (fitting left (length a) (floor ∷ fs)) ≡ joined_all joined b (fitting rest (length b) fs))
    → (fs : List (List ℕ)) → W fs ≡ joined_all joined b (fitting rest (length b) (replicate (count - (i + 1)) floor ++ fs))
one-copy W joined a b floor left rest count i l before push fs =
    let e : count - i ≡ suc (count - (i + 1)) = omega (arith, l) in
    before fs ∙ ap (λ n. joined_all joined a (fitting left (length a) (replicate n floor ++ fs))) e ∙ push (replicate (count - (i + 1)) floor ++ fs)

-- after the last copy that may be pushed
pub copies-end : (joined : List ℕ → List ℕ → List ℕ) (a floor : List ℕ) (left most count i : ℕ) (fs : List (List ℕ)) → min count most ≤ i → left ≤ most - i
    → joined_all joined a (fitting left (length a) (replicate (count - i) floor ++ fs)) ≡ joined_all joined a (fitting left (length a) fs)
copies-end joined a floor zero most count i fs last few = refl
copies-end joined a floor (suc left) most count i fs last few =
    let none : count - i ≡ 0 = omega (arith, last, few) in
    ap (λ n. joined_all joined a (fitting (suc left) (length a) (replicate n floor ++ fs))) none

pub one-specialty : (W : List ℕ) (joined : List ℕ → List ℕ → List ℕ) (F : ℕ → List ℕ) (blocks : ℕ → List ℕ) (a b : List ℕ) (left rest n j : ℕ) → j < n
    → W ≡ joined_all joined a (fitting left (length a) (map F (flat_map blocks (range_with_len (j + 1) (n - j)))))
    → ((fs : List (List ℕ)) → joined_all joined a (fitting left (length a) (map F (blocks (j + 1)) ++ fs)) ≡ joined_all joined b (fitting rest (length b) fs))
    → W ≡ joined_all joined b (fitting rest (length b) (map F (flat_map blocks (range_with_len (j + 1 + 1) (n - (j + 1))))))
one-specialty W joined F blocks a b left rest n j l before push =
    let e : n - j ≡ suc (n - (j + 1)) = omega (arith, l) in
    before
    ∙ ap (λ m. joined_all joined a (fitting left (length a) (map F (flat_map blocks (range_with_len (j + 1) m))))) e
    ∙ ap (λ fs. joined_all joined a (fitting left (length a) fs)) (map-append F (blocks (j + 1)) (flat_map blocks (range_with_len (j + 1 + 1) (n - (j + 1)))))
    ∙ push (map F (flat_map blocks (range_with_len (j + 1 + 1) (n - (j + 1)))))

pub lies-is : (ward_of : List ℕ) (w j : ℕ) → 1 ≤ j → lies_on ward_of w j ≡ (get_or ward_of (j - 1) 0 == w)
lies-is ward_of w zero h = absurd (omega arith)
lies-is ward_of w (suc j) h = let e : j ≡ suc j - 1 = omega arith in ap (λ k. get_or ward_of k 0 == w) e

map-copies : (F : ℕ → List ℕ) (n j : ℕ) → map F (replicate n j) ≡ replicate n (F j)
map-copies F zero j = refl
map-copies F (suc n) j = ap (λ l. F j ∷ l) (map-copies F n j)

-- the floors of a specialty that lies on the ward, and of one that doesn't
pub floors-there : (F : ℕ → List ℕ) (lies : Bool) (n j : ℕ) → lies ≡ true → map F (if lies then replicate n j else []) ≡ replicate n (F j)
floors-there F lies n j h = rw h (map-copies F n j)

pub no-floors : (F : ℕ → List ℕ) (lies : Bool) (n j : ℕ) → (lies ≡ false) ⊎ (n ≡ 0) → map F (if lies then replicate n j else []) ≡ []
no-floors F lies n j (inl off) = rw off refl
no-floors F true n j (inr none) = rw none refl
no-floors F false n j (inr none) = refl

-- ---- from the first specialty to the last

pub first-floors : (joined : List ℕ → List ℕ → List ℕ) (F : ℕ → List ℕ) (blocks : ℕ → List ℕ) (a : List ℕ) (most left n : ℕ) → left ≡ most
    → joined_all joined a (fitting most (length a) (map F (flat_map blocks (range_with_len 1 n)))) ≡ joined_all joined a (fitting left (length a) (map F (flat_map blocks (range_with_len (0 + 1) (n - 0)))))
first-floors joined F blocks a most left n e =
    let z : n ≡ n - 0 = omega arith in
    ap₂ (λ k m. joined_all joined a (fitting k (length a) (map F (flat_map blocks (range_with_len 1 m))))) (sym e) z

pub last-floors : (joined : List ℕ → List ℕ → List ℕ) (F : ℕ → List ℕ) (blocks : ℕ → List ℕ) (a : List ℕ) (left long from n j : ℕ) → n ≤ j
    → joined_all joined a (fitting left long (map F (flat_map blocks (range_with_len from (n - j))))) ≡ a
last-floors joined F blocks a left long from n j l =
    let z : n - j ≡ 0 = omega (arith, l) in
    ap (λ m. joined_all joined a (fitting left long (map F (flat_map blocks (range_with_len from m))))) z ∙ ap (joined_all joined a) (none left)
  where
    none : (k : ℕ) → fitting k long [] ≡ []
    none zero = refl
    none (suc k) = refl
