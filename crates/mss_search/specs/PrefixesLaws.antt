-- Prefixes among those of appended lists, and how long the prefixes under a line are.
use Rattle.std.proofs.Common.{ℕ, ◌<◌, ◌≤◌, zero, suc, List, [], ◌∷◌, ◌++◌, length, ◌⊎◌, inl, inr, ap, arith, length-append}
use Rattle.mss_cert.specs.declared.certificate.Line.{Line}
use Rattle.mss_cert.specs.declared.certificate.Line.TheVariants.{Branch, Dead, Full, Closed, OpenAt}
use Rattle.mss_check.specs.Tree.{Task, Fits, children_from, under}
use Rattle.mss_search.specs.Frugal.{In}

-- a member of one of two lists is one of both, and the other way round
pub in_left : {A : Type 0} (x : A) (a b : List A) → In x a → In x (a ++ b)
in_left x [] b h = absurd h
in_left x (y ∷ a) b (inl e) = inl e
in_left x (y ∷ a) b (inr h) = inr (in_left x a b h)

pub in_right : {A : Type 0} (x : A) (a b : List A) → In x b → In x (a ++ b)
in_right x [] b h = h
in_right x (y ∷ a) b h = inr (in_right x a b h)

pub in_either : {A : Type 0} (x : A) (a b : List A) → In x (a ++ b) → In x a ⊎ In x b
in_either x [] b h = inr h
in_either x (y ∷ a) b (inl e) = inl (inl e)
in_either x (y ∷ a) b (inr h) = elim (in_either x a b h) [ inl l ↦ inl (inr l) | inr r ↦ inr r ]

-- prefixes under a line have at most an option for each slot
children_short : (n : ℕ) (p : List ℕ) (i m : ℕ) → length p < n → (q : List ℕ) → In q (children_from p i m) → length q ≤ n
children_short n p i zero h q o = absurd o
children_short n p i (suc m) h q (inl e) = omega (arith, ap length e, length-append p (i ∷ []))
children_short n p i (suc m) h q (inr o) = children_short n p (suc i) m h q o

pub under_short : (t : Task) (p : List ℕ) (l : Line) → Fits t p l → (q : List ℕ) → In q (under t p l) → length q ≤ t.slots
under_short t p (Branch turn) f q o = children_short t.slots p 0 t.options f q o
under_short t p (Dead rule) f q o = absurd o
under_short t p (Full turn n w d) f q o = absurd o
under_short t p (Closed turn n w d) f q o = absurd o
under_short t p (OpenAt n w d) f q o = absurd o
