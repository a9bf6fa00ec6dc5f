-- `check` comes to one outcome over the same files.
use Rattle.std.proofs.Common.{◌≡◌, ℕ, inl, inr, sym, ap, subst, ◌∙◌}
use Rattle.mss_model.specs.declared.parts.TableParts.{TableParts}
use Rattle.mss_weights.specs.declared.faults.WeightsFault.{WeightsFault}
use Rattle.mss_weights.specs.declared.faults.WeightsKind.{WeightsKind}
use Rattle.mss_weights.specs.declared.weights.Weights.{Weights}
use Rattle.mss_weights.specs.WeightsFaults.{IsFaultAt}
use Rattle.mss_weights.specs.OneFaultLaws.{one_fault}
use Rattle.mss_weights.specs.WeightTextsLaws.{same_weights, text_is_good}
use Rattle.mss_command.specs.CheckLaws.{IsOneToOne, text_is_one}
use Rattle.mss_command.specs.OneOutcome.{IsOneAnswer}
use Rattle.mss_command.specs.Outcome.{Outcome}
use Rattle.mss_timetable.specs.Check.{CheckDefines, VerdictDefines, weights_format}

one_verdict : (tables : TableParts) (w : Weights) (o p : Outcome) → VerdictDefines tables w o → VerdictDefines tables w p → o ≡ p
one_verdict tables w o p (inl a) (inl b) = a.accepts ∙ sym b.accepts
one_verdict tables w o p (inl a) (inr r) = absurd (r.not_shown a.shown)
one_verdict tables w o p (inr r) (inl b) = absurd (r.not_shown b.shown)
one_verdict tables w o p (inr r) (inr s) = r.refuses ∙ sym s.refuses

abbrev fault_with : ℕ → WeightsKind → WeightsFault
fault_with line kind = record { line = line; kind = kind }

same_fault : (f g : WeightsFault) → (f.kind ≡ g.kind) × (f.line ≡ g.line) → f ≡ g
same_fault f g same = ap (λ k. fault_with f.line k) same.0 ∙ ap (λ n. fault_with n g.kind) same.1

-- a text is of one set of weights, or has one first fault
pub weights_are_one : IsOneToOne weights_format
weights_are_one = record {
  one_value = λ bytes w v one other. same_weights w v one.0 other.0 (sym one.1 ∙ other.1);
  one_fault = λ bytes f g one other. same_fault f g (one_fault bytes f.kind g.kind f.line g.line one other);
  not_both = λ bytes w f means first. text_is_good w f.kind f.line means.0 (subst (λ b. IsFaultAt b f.kind f.line) means.1 first);
}

pub check_is_one : IsOneAnswer CheckDefines
check_is_one tables file o p a b = text_is_one weights_format (VerdictDefines tables) weights_are_one (one_verdict tables) file o p a b
