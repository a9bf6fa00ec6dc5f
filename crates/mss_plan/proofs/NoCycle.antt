-- A frugal tree with no open and no full line has no number.
use Rattle.std.proofs.Common.{◌≡◌, ℕ, List, [], ◌∷◌, ◌++◌, Option, Some, None, inl, inr, refl, ap, ◌∙◌}
use Rattle.mss_model.specs.declared.parts.TableParts.{TableParts}
use Rattle.mss_cert.specs.declared.certificate.Line.{Line}
use Rattle.mss_cert.specs.declared.certificate.Line.TheVariants.{Branch, Dead, Full, Closed, OpenAt}
use Rattle.mss_cert.specs.declared.certificate.End.TheVariants.{NoneLegal}
use Rattle.mss_cert.specs.declared.certificate.Certificate.{Certificate}
use Rattle.mss_pctl.specs.declared.first_largest.FirstLargest.{FirstLargest}
use Rattle.mss_check.specs.Tree.{Task, Reads, under, number_of, least_number, end_of}
use Rattle.mss_check.specs.Validity.{IsValidFor}
use Rattle.mss_check.specs.AgreementLaws.{valid_read}
use Rattle.mss_search.specs.Frugal.{Board, Held, In, IsRightlyTaken, on}
use Rattle.mss_search.specs.Plan.{IsFrugal, placed}
use Rattle.mss_search.specs.Promises.{HasOpen, board_of}
use Rattle.mss_search.specs.Standing.{HasNoFull}
use Rattle.mss_search.specs.EndingLaws.{least_stands}

-- each line of a tree has a prefix
placed_line : (t : Task) (ps : List (List ℕ)) (ls : List Line) (l : Line) → Reads t ps ls → In l ls → (q : List ℕ) × on (placed t ps ls) q l
placed_line t [] [] l h i = absurd i
placed_line t [] (x ∷ ls) l h i = absurd h
placed_line t (p ∷ ps) [] l h i = absurd i
placed_line t (p ∷ ps) (x ∷ ls) l h (inl e) = (p, inl (ap (λ z. record { at = p; line = z }) e))
placed_line t (p ∷ ps) (x ∷ ls) l h (inr i) = let r = placed_line t (under t p x ++ ps) ls l h.1 i in (r.0, inr r.1)

-- a line without a number, where none is open or full, since a closed line needs a full one
no_number : (upper : List ℕ → ℕ) (b : Board) (bound : ℕ) (q : List ℕ) (l : Line) (n : ℕ) → b q l → IsRightlyTaken (Held upper b) bound l
    → ((p : List ℕ) (m w d : ℕ) → b p (OpenAt m w d) → ⊥) → HasNoFull b → number_of l ≡ Some n → ⊥
no_number upper b bound q (Branch turn) n h k shut none e = cc
no_number upper b bound q (Dead rule) n h k shut none e = cc
no_number upper b bound q (Full turn m w d) n h k shut none e = none q turn m w d h
no_number upper b bound q (Closed turn m w d) n h k shut none e = let y = k.1 in none y.0 y.1 y.2 y.3 y.4 y.5
no_number upper b bound q (OpenAt m w d) n h k shut none e = shut q m w d h

module _ (t : Task) (tables : TableParts) (bound : List ℕ → FirstLargest) (upper : List ℕ → ℕ) (budget turns : ℕ) (c : Certificate)
    (valid : IsValidFor t tables c) (frugal : IsFrugal t bound upper budget c.tree turns) (shut : HasOpen t c.tree → ⊥) (none : HasNoFull (board_of t c.tree)) where
  end_is : (least : Option ℕ) → least_number c.tree ≡ least → c.end ≡ NoneLegal
  end_is None e = valid.last ∙ ap end_of e
  end_is (Some n) e =
      let r = least_stands c.tree n e in
      let p = placed_line t ([] ∷ []) c.tree r.0 (valid_read t c.tree valid.tree) r.1 in
      absurd (no_number upper (board_of t c.tree) (bound p.0).number p.0 r.0 n p.1 (frugal.each_turn.rightly p.0 r.0 p.1) (λ q m w d h. shut (q, m, w, d, h)) none r.2)

  -- the tree ends in no number
  pub none_legal : c.end ≡ NoneLegal
  none_legal = end_is (least_number c.tree) refl
