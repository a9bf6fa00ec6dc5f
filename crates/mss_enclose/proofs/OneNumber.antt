-- What a part of one number makes of a full list: nothing else.
use Rattle.std.proofs.Common.{◌≡◌, ℕ, ◌+◌, ◌-◌, ◌≤◌, ◌<◌, suc, List, [], ◌∷◌, length, sum, refl, ◌∙◌, ap, arith}
use Rattle.std.proofs.lemmas.Grind.{same_number_lists}
use Rattle.mss_model.proofs.ListsAsFunctions.{sum-cons}
use Rattle.mss_enclose.specs.Unit.{unit}
use Rattle.mss_enclose.specs.Kept.{kept_convolution, lean_convolution, raised, rest_of}
use Rattle.mss_enclose.specs.FloorLaws.{length-kept_convolution, at-kept_convolution}
use Rattle.mss_enclose.proofs.ConvolutionTerms.{number_of_unit}

-- its rest lies on outcome 0, so it is the whole unit there
raised-one : (x : ℕ) → sum (x ∷ []) ≤ unit → raised (x ∷ []) ≡ unit ∷ []
raised-one x fits = ap (λ y. y ∷ []) (omega (arith, fits, sum-cons x []))

-- the whole unit on outcome 0 leaves each number as it is
kept-unit : (a : List ℕ) → kept_convolution a (unit ∷ []) ≡ a
kept-unit a =
    let size : length (kept_convolution a (unit ∷ [])) ≡ length a = omega (arith, length-kept_convolution a (unit ∷ [])) in
    same_number_lists (kept_convolution a (unit ∷ [])) a size
    (λ k lt. at-kept_convolution a (unit ∷ []) k (omega arith) ∙ number_of_unit a (unit ∷ []) k refl refl)

-- a full list has no rest to raise
raised-full : (a : List ℕ) → sum a ≡ unit → raised a ≡ a
raised-full [] full = refl
raised-full (x ∷ xs) full = ap (λ y. y ∷ xs) (omega (arith, full))

pub one_number : (a b : List ℕ) → sum a ≡ unit → length b ≡ 1 → sum b ≤ unit → lean_convolution a b ≡ a
one_number a [] full one fits = absurd (omega arith)
one_number a (x ∷ []) full one fits = rw (raised-one x fits, kept-unit a) (raised-full a full)
one_number a (x ∷ y ∷ ys) full one fits = absurd (omega (arith, one))
