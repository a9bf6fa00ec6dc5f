-- The largest of some numbers, and of one more.
use Rattle.std.proofs.Common.{◌≡◌, max, ℕ, List, [], ◌∷◌, ◌++◌, map, ap, ◌∙◌, arith}
use Rattle.std.proofs.lemmas.List.{map-append}
use Rattle.mss_pctl.specs.Peaks.{Place, largest}

largest-last : (xs : List ℕ) (x : ℕ) → largest (xs ++ x ∷ []) ≡ max (largest xs) x
largest-last [] x = omega arith
largest-last (y ∷ ys) x = omega (arith, largest-last ys x)

pub largest-more : (f : Place → ℕ) (ps : List Place) (p : Place) → largest (map f (ps ++ p ∷ [])) ≡ max (largest (map f ps)) (f p)
largest-more f ps p = ap largest (map-append f ps (p ∷ [])) ∙ largest-last (map f ps) (f p)
