-- Worked examples of trees over one slot with two options, each proved by computing.
use Rattle.std.proofs.Common.{◌≡◌, ℕ, ◌+◌, ◌≤◌, ◌&&◌, lit<, lit≤, List, [], ◌∷◌, sum, Some, None, refl, arith}
use Rattle.std.specs.Prelude.{◌==◌}
use Rattle.mss_cert.specs.declared.certificate.Line.{Line}
use Rattle.mss_cert.specs.declared.certificate.Line.TheVariants.{Branch, Full}
use Rattle.mss_cert.specs.declared.certificate.End.TheVariants.{Lower}
use Rattle.mss_cert.specs.declared.verdict.Reason.TheVariants as reasons
use Rattle.mss_cert.specs.declared.verdict.Verdict.TheVariants.{Yes, No}
use Rattle.mss_check.specs.Tree.{Task, Holds}
use Rattle.mss_check.specs.Shape.{IsTree}
use Rattle.mss_check.specs.Verdicts.{tree_verdict}
use Rattle.mss_check.specs.AgreementLaws.{valid_read, read_valid}

-- at the one ward and day two beds are taken, and one more under option 1
abbrev one_slot : Task
one_slot = record {
  slots = 1;
  options = 2;
  dead = λ prefix. None;
  is_place = λ ward day. (ward == 1) && (day == 1);
  low = λ prefix ward day. 2 + sum prefix;
}

-- a branch, and a whole cycle for each option
abbrev two_leaves : ℕ → ℕ → List Line
two_leaves first second = Branch 1 ∷ Full 2 first 1 1 ∷ Full 3 second 1 1 ∷ []

-- ---- numbers

two_at_idle : Holds one_slot (0 ∷ []) 2 1 1
two_at_idle = (refl, lit≤ tt)

three_at_block : Holds one_slot (1 ∷ []) 3 1 1
three_at_block = (refl, lit≤ tt)

three_at_idle : ¬ Holds one_slot (0 ∷ []) 3 1 1
three_at_idle holds = let above : 3 ≤ 2 = holds.1 in absurd (omega (arith, above))

-- ---- trees

valid : IsTree one_slot 1 [] (two_leaves 2 3)
valid = read_valid one_slot (two_leaves 2 3) (lit< tt, ((refl, refl, two_at_idle), ((refl, refl, three_at_block), tt)))

-- the first number is above that of its prefix
too_high : ¬ IsTree one_slot 1 [] (two_leaves 3 3)
too_high tree = three_at_idle (valid_read one_slot (two_leaves 3 3) tree).1.0.2

-- one option has no tree
too_few : ¬ IsTree one_slot 1 [] (Branch 1 ∷ Full 2 2 1 1 ∷ [])
too_few tree = (valid_read one_slot (Branch 1 ∷ Full 2 2 1 1 ∷ []) tree).1.1

-- ---- verdicts

accepted : tree_verdict one_slot (two_leaves 2 3) (Lower 2) ≡ Yes (Some 2)
accepted = refl

bound_low : tree_verdict one_slot (two_leaves 3 3) (Lower 3) ≡ No 4 reasons.BoundLow
bound_low = refl

ended : tree_verdict one_slot (Branch 1 ∷ Full 2 2 1 1 ∷ []) (Lower 2) ≡ No 5 reasons.Ended
ended = refl

lower_wrong : tree_verdict one_slot (two_leaves 2 3) (Lower 3) ≡ No 6 reasons.LowerWrong
lower_wrong = refl
