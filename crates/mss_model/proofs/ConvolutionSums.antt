-- Sums of distributions: order and grouping change nothing.
use Rattle.std.proofs.Common.{◌≡◌, ℕ, ◌<◌, zero, suc, refl, sym, ◌∙◌, arith, List, [], ◌∷◌, length, ap, sum, mul-pos, lit<, ◌++◌, map}
use Rattle.std.proofs.lemmas.Grind.{same_number_lists}
use Rattle.mss_model.specs.Distribution.{convolution, convolution_all}
use Rattle.mss_model.proofs.Convolution.{conv, conv-zero, conv_comm, conv_assoc, conv-same_left, conv-same_right}
use Rattle.mss_model.proofs.ListsAsFunctions.{at, at-convolution, length-convolution, sum-convolution}

-- a list with weights has an outcome
pub nonempty : (e : List ℕ) → 0 < sum e → 0 < length e
nonempty [] h = absurd (omega (arith, h))
nonempty (x ∷ xs) h = omega arith

pub convolution_comm : (a b : List ℕ) → 0 < length a → 0 < length b → convolution a b ≡ convolution b a
convolution_comm a b ha hb =
    let n : length (convolution a b) ≡ length (convolution b a) = omega (arith, length-convolution a b, length-convolution b a) in
    same_number_lists (convolution a b) (convolution b a) n (λ k lt. at-convolution a b ha hb k ∙ conv_comm (at a) (at b) k ∙ sym (at-convolution b a hb ha k))

pub convolution_assoc : (a b c : List ℕ) → 0 < length a → 0 < length b → 0 < length c → convolution (convolution a b) c ≡ convolution a (convolution b c)
convolution_assoc a b c ha hb hc =
    let hab : 0 < length (convolution a b) = omega (arith, length-convolution a b) in
    let hbc : 0 < length (convolution b c) = omega (arith, length-convolution b c) in
    let n : length (convolution (convolution a b) c) ≡ length (convolution a (convolution b c)) = omega (arith, length-convolution (convolution a b) c, length-convolution a (convolution b c), length-convolution a b, length-convolution b c) in
    same_number_lists (convolution (convolution a b) c) (convolution a (convolution b c)) n (λ k lt.
    at-convolution (convolution a b) c hab hc k
    ∙ conv-same_left (at (convolution a b)) (conv (at a) (at b)) (at c) k (at-convolution a b ha hb)
    ∙ conv_assoc (at a) (at b) (at c) k
    ∙ sym (conv-same_right (at a) (at (convolution b c)) (conv (at b) (at c)) k (at-convolution b c hb hc))
    ∙ sym (at-convolution a (convolution b c) ha hbc k))

conv-unit : (f : ℕ → ℕ) (k : ℕ) → conv (at (1 ∷ [])) f k ≡ f k
conv-unit f zero = omega arith
conv-unit f (suc k) = omega (arith, conv-zero f k)

pub convolution-unit_left : (f : List ℕ) → 0 < length f → convolution (1 ∷ []) f ≡ f
convolution-unit_left f hf =
    let n : length (convolution (1 ∷ []) f) ≡ length f = omega (arith, length-convolution (1 ∷ []) f) in
    same_number_lists (convolution (1 ∷ []) f) f n (λ k lt. at-convolution (1 ∷ []) f (lit< tt) hf k ∙ conv-unit (at f) k)

pub convolution-unit_right : (f : List ℕ) → 0 < length f → convolution f (1 ∷ []) ≡ f
convolution-unit_right f hf = convolution_comm f (1 ∷ []) hf (lit< tt) ∙ convolution-unit_left f hf

-- the sum of two distributions is one
pub convolution-positive : (e f : List ℕ) → 0 < sum e → 0 < sum f → 0 < sum (convolution e f)
convolution-positive e f p q = rw (sum-convolution e f (nonempty e p) (nonempty f q)) (mul-pos p q)

abbrev pub AllPositive : List (List ℕ) → Type 0
AllPositive [] = Unit {0}
AllPositive (e ∷ es) = (0 < sum e) × AllPositive es

abbrev pub GroupsPositive : List (List (List ℕ)) → Type 0
GroupsPositive [] = Unit {0}
GroupsPositive (g ∷ gs) = AllPositive g × GroupsPositive gs

abbrev pub grouped : List (List (List ℕ)) → List (List ℕ)
grouped [] = []
grouped (g ∷ gs) = g ++ grouped gs

pub positive-all : (es : List (List ℕ)) → AllPositive es → 0 < sum (convolution_all es)
positive-all [] h = lit< tt
positive-all (e ∷ es) h =
    let r : 0 < sum (convolution_all es) = positive-all es h.1 in
    rw (sum-convolution e (convolution_all es) (nonempty e h.0) (nonempty (convolution_all es) r)) (mul-pos h.0 r)

pub nonempty-all : (es : List (List ℕ)) → AllPositive es → 0 < length (convolution_all es)
nonempty-all es h = nonempty (convolution_all es) (positive-all es h)

pub convolution_all-append : (xs ys : List (List ℕ)) → AllPositive xs → AllPositive ys → convolution_all (xs ++ ys) ≡ convolution (convolution_all xs) (convolution_all ys)
convolution_all-append [] ys p q = sym (convolution-unit_left (convolution_all ys) (nonempty-all ys q))
convolution_all-append (x ∷ xs) ys p q =
    ap (convolution x) (convolution_all-append xs ys p.1 q) ∙ sym (convolution_assoc x (convolution_all xs) (convolution_all ys) (nonempty x p.0) (nonempty-all xs p.1) (nonempty-all ys q))

pub positive-append : (xs ys : List (List ℕ)) → AllPositive xs → AllPositive ys → AllPositive (xs ++ ys)
positive-append [] ys p q = q
positive-append (x ∷ xs) ys p q = (p.0, positive-append xs ys p.1 q)

pub positive-grouped : (gs : List (List (List ℕ))) → GroupsPositive gs → AllPositive (grouped gs)
positive-grouped [] h = tt
positive-grouped (g ∷ gs) h = positive-append g (grouped gs) h.0 (positive-grouped gs h.1)

-- groups may be summed first
pub convolution_all-groups : (gs : List (List (List ℕ))) → GroupsPositive gs → convolution_all (grouped gs) ≡ convolution_all (map convolution_all gs)
convolution_all-groups [] h = refl
convolution_all-groups (g ∷ gs) h =
    convolution_all-append g (grouped gs) h.0 (positive-grouped gs h.1) ∙ ap (convolution (convolution_all g)) (convolution_all-groups gs h.1)

-- two neighbours may change places
pub convolution_all-swap : (x y : List ℕ) (r : List (List ℕ)) → 0 < length x → 0 < length y → 0 < length (convolution_all r) → convolution_all (x ∷ y ∷ r) ≡ convolution_all (y ∷ x ∷ r)
convolution_all-swap x y r nx ny nr = sym (convolution_assoc x y (convolution_all r) nx ny nr) ∙ ap (λ e. convolution e (convolution_all r)) (convolution_comm x y nx ny) ∙ convolution_assoc y x (convolution_all r) ny nx nr
