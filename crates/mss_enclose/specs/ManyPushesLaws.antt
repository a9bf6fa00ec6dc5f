-- Many pushes onto one list, for any rule of joining and any relation between kept lists and distributions.
--
-- In these lemmas `j` is the rule, `S` the relation, and the laws of an enclosure are their premises.
use Rattle.std.proofs.Common.{◌≡◌, ℕ, ◌+◌, ◌*◌, ◌-◌, ◌≤◌, ◌<◌, sym, subst, arith, lit<, List, [], ◌∷◌, ◌++◌, refl, length, sum, sum_by, mul-le-mul_right}
use Rattle.std.proofs.lemmas.List.Sums.{sum_by-cons}
use Rattle.mss_model.specs.Distribution.{convolution, convolution_all}
use Rattle.mss_model.proofs.ConvolutionSums.{nonempty, convolution-positive, convolution-unit_left, convolution-unit_right, convolution_assoc}
use Rattle.mss_enclose.specs.Unit.{unit}
use Rattle.mss_enclose.specs.Kept.{rest_of, StandsFor, Within, joined_all, PartsStand}
use Rattle.mss_enclose.specs.MassesLaws.{masses-start, masses-within}

pub sum-convolution_all : (ps es : List (List ℕ)) → PartsStand ps es → 0 < sum (convolution_all es)
sum-convolution_all [] [] h = lit< tt
sum-convolution_all [] (e ∷ es) h = absurd h
sum-convolution_all (p ∷ ps) [] h = absurd h
sum-convolution_all (p ∷ ps) (e ∷ es) h = convolution-positive e (convolution_all es) h.0.positive (sum-convolution_all ps es h.1)

-- what holds of one push holds of all
pub all-stand : (j : List ℕ → List ℕ → List ℕ) (S : List ℕ → List ℕ → Type 0)
    → ((a b e f : List ℕ) → S a e → StandsFor b f → S (j a b) (convolution e f))
    → (a e : List ℕ) (ps es : List (List ℕ)) → S a e → 0 < sum e → PartsStand ps es → S (joined_all j a ps) (convolution_all (e ∷ es))
all-stand j S law a e [] [] h pos hs = subst (S a) (sym (convolution-unit_right e (nonempty e pos))) h
all-stand j S law a e [] (f ∷ es) h pos hs = absurd hs
all-stand j S law a e (p ∷ ps) [] h pos hs = absurd hs
all-stand j S law a e (p ∷ ps) (f ∷ es) h pos hs =
    let ne : 0 < length e = nonempty e pos in
    let pf : 0 < sum f = hs.0.positive in
    let nf : 0 < length f = nonempty f pf in
    let nr : 0 < length (convolution_all es) = nonempty (convolution_all es) (sum-convolution_all ps es hs.1) in
    let pj : 0 < sum (convolution e f) = convolution-positive e f pos pf in
    subst (S (joined_all j (j a p) ps)) (convolution_assoc e f (convolution_all es) ne nf nr)
    (all-stand j S law (j a p) (convolution e f) ps es (law a p e f h hs.0) pj hs.1)

pub within-more : (s t : ℕ) (a e : List ℕ) → s ≤ t → Within s a e → Within t a e
within-more s t a e l w = record {
  above = λ x. omega (arith, w.above x, mul-le-mul_right (sum e) l);
  below = λ x. omega (arith, w.below x, mul-le-mul_right (sum e) l);
}

-- many pushes: each adds the rest of its part and at most the last length
pub all-near : (j : List ℕ → List ℕ → List ℕ) (S : List ℕ → List ℕ → Type 0)
    → ((a b e f : List ℕ) → S a e → StandsFor b f → S (j a b) (convolution e f))
    → ((a b e f : List ℕ) (s r : ℕ) → S a e → Within s a e → StandsFor b f → Within r b f → Within (s + r + (length a + length b - 1)) (j a b) (convolution e f))
    → ((a b : List ℕ) → length (j a b) ≡ length a + length b - 1)
    → (m s : ℕ) (a e : List ℕ) (ps es : List (List ℕ)) → S a e → 0 < sum e → Within s a e → PartsStand ps es
    → length a + sum_by (λ p. length p - 1) ps ≤ m
    → Within (s + sum_by rest_of ps + length ps * m) (joined_all j a ps) (convolution_all (e ∷ es))
all-near j S sums near len m s a e [] [] h pos w hs l =
    subst (Within (s + 0 + 0 * m) a) (sym (convolution-unit_right e (nonempty e pos))) (within-more s (s + 0 + 0 * m) a e (omega arith) w)
all-near j S sums near len m s a e [] (f ∷ es) h pos w hs l = absurd hs
all-near j S sums near len m s a e (p ∷ ps) [] h pos w hs l = absurd hs
all-near j S sums near len m s a e (p ∷ ps) (f ∷ es) h pos w hs l =
    let ne : 0 < length e = nonempty e pos in
    let pf : 0 < sum f = hs.0.positive in
    let nf : 0 < length f = nonempty f pf in
    let nr : 0 < length (convolution_all es) = nonempty (convolution_all es) (sum-convolution_all ps es hs.1) in
    let pj : 0 < sum (convolution e f) = convolution-positive e f pos pf in
    let parts : sum_by (λ p. length p - 1) (p ∷ ps) ≡ (length p - 1) + sum_by (λ p. length p - 1) ps = sum_by-cons (λ p. length p - 1) p ps in
    let rests : sum_by rest_of (p ∷ ps) ≡ rest_of p + sum_by rest_of ps = sum_by-cons rest_of p ps in
    let here : Within (s + rest_of p + m) (j a p) (convolution e f) =
    within-more (s + rest_of p + (length a + length p - 1)) (s + rest_of p + m) (j a p) (convolution e f) (omega (arith, parts, l))
    (near a p e f s (rest_of p) h w hs.0 (masses-within p f hs.0)) in
    let rest = all-near j S sums near len m (s + rest_of p + m) (j a p) (convolution e f) ps es (sums a p e f h hs.0) pj here hs.1 (omega (arith, len a p, parts, l)) in
    subst (Within (s + sum_by rest_of (p ∷ ps) + length (p ∷ ps) * m) (joined_all j (j a p) ps)) (convolution_assoc e f (convolution_all es) ne nf nr)
    (within-more (s + rest_of p + m + sum_by rest_of ps + length ps * m) (s + sum_by rest_of (p ∷ ps) + length (p ∷ ps) * m) (joined_all j (j a p) ps) (convolution_all (convolution e f ∷ es)) (omega (arith, rests)) rest)

drop-start : (ps es : List (List ℕ)) → PartsStand ps es → convolution_all ((1 ∷ []) ∷ es) ≡ convolution_all es
drop-start ps es h = convolution-unit_left (convolution_all es) (nonempty (convolution_all es) (sum-convolution_all ps es h))

-- pushes onto the list of no patients
pub start-all : (j : List ℕ → List ℕ → List ℕ) (S : List ℕ → List ℕ → Type 0)
    → ((a b e f : List ℕ) → S a e → StandsFor b f → S (j a b) (convolution e f))
    → S (unit ∷ []) (1 ∷ []) → (ps es : List (List ℕ)) → PartsStand ps es → S (joined_all j (unit ∷ []) ps) (convolution_all es)
start-all j S law start ps es h =
    subst (S (joined_all j (unit ∷ []) ps)) (drop-start ps es h) (all-stand j S law (unit ∷ []) (1 ∷ []) ps es start (lit< tt) h)

pub start-near : (j : List ℕ → List ℕ → List ℕ) (S : List ℕ → List ℕ → Type 0)
    → ((a b e f : List ℕ) → S a e → StandsFor b f → S (j a b) (convolution e f))
    → ((a b e f : List ℕ) (s r : ℕ) → S a e → Within s a e → StandsFor b f → Within r b f → Within (s + r + (length a + length b - 1)) (j a b) (convolution e f))
    → ((a b : List ℕ) → length (j a b) ≡ length a + length b - 1)
    → S (unit ∷ []) (1 ∷ []) → (m : ℕ) (ps es : List (List ℕ)) → PartsStand ps es → 1 + sum_by (λ p. length p - 1) ps ≤ m
    → Within (sum_by rest_of ps + length ps * m) (joined_all j (unit ∷ []) ps) (convolution_all es)
start-near j S law near len start m ps es h l =
    let zero_rest : Within 0 (unit ∷ []) (1 ∷ []) = masses-within (unit ∷ []) (1 ∷ []) masses-start in
    subst (Within (sum_by rest_of ps + length ps * m) (joined_all j (unit ∷ []) ps)) (drop-start ps es h)
    (within-more (0 + sum_by rest_of ps + length ps * m) (sum_by rest_of ps + length ps * m) (joined_all j (unit ∷ []) ps) (convolution_all ((1 ∷ []) ∷ es)) (omega arith)
    (all-near j S law near len m 0 (unit ∷ []) (1 ∷ []) ps es start (lit< tt) zero_rest h l))

pub part-some : (p e : List ℕ) → StandsFor p e → 0 < length p
part-some p e h = subst (λ n. 0 < n) (sym h.same_length) (nonempty e h.positive)

pub joined-length : (j : List ℕ → List ℕ → List ℕ) → ((a b : List ℕ) → length (j a b) ≡ length a + length b - 1)
    → (a : List ℕ) (ps es : List (List ℕ)) → PartsStand ps es → length (joined_all j a ps) ≡ length a + sum_by (λ p. length p - 1) ps
joined-length j len a [] [] h = omega arith
joined-length j len a [] (e ∷ es) h = absurd h
joined-length j len a (p ∷ ps) [] h = absurd h
joined-length j len a (p ∷ ps) (e ∷ es) h =
    let s : sum_by (λ p. length p - 1) (p ∷ ps) ≡ (length p - 1) + sum_by (λ p. length p - 1) ps = sum_by-cons (λ p. length p - 1) p ps in
    omega (arith, s, joined-length j len (j a p) ps es h.1, len a p, part-some p e h.0)

-- one push more
pub joined-more : (j : List ℕ → List ℕ → List ℕ) (a : List ℕ) (ps qs : List (List ℕ)) → joined_all j a (ps ++ qs) ≡ joined_all j (joined_all j a ps) qs
joined-more j a [] qs = refl
joined-more j a (p ∷ ps) qs = joined-more j (j a p) ps qs
