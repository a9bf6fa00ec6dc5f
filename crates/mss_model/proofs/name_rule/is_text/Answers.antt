use Rattle.std.proofs.Common.{◌≡◌, List, ℕ, Result, Ok, Err, MatchResult, sym, ◌∙◌, inl, inr}
use Rattle.std.specs.Result.{is_ok}
use Rattle.std.proofs.lemmas.Bool.{cases_Bool}
use Rattle.std.proofs.lemmas.Str.{is_utf8-from_IsUtf8, IsUtf8-from_is_utf8}
use Rattle.std.specs.Str.{is_utf8, IsUtf8}
use Rattle.mss_model.proofs.name_rule.is_text.Goals as goal

is-text : {A E : Type 0} (r : Result A E) (bytes : List ℕ) (P : A → Type 0) (Q : E → Type 0)
    → MatchResult r (λ s. P s × IsUtf8 bytes) (λ e. ¬ IsUtf8 bytes × Q e) → is_ok r ≡ is_utf8 bytes
is-text (Ok s) bytes P Q h = sym (is_utf8-from_IsUtf8 bytes h.1)
is-text (Err e) bytes P Q h =
    elim (cases_Bool (is_utf8 bytes)) [
      | inl is ↦ absurd (h.0 (IsUtf8-from_is_utf8 bytes is))
      | inr other ↦ sym other
    ]

pub returns : goal.returns
returns c = c.is_ok.ensures.value ∙ is-text c.from_utf8.result c.args.bytes.now _ _ c.from_utf8.ensures.cases
