use Rattle.std.proofs.Common.{◌≡◌, ◌==◌, ◌+◌, false, true, ◌∙◌, ap, refl}
use Rattle.std.specs.List.{list_any}
use Rattle.mss_model.proofs.limits.is_allowed.Goals as goal

pub returns-then-is_watched : goal.returns-then-is_watched
returns-then-is_watched c = (
  λ _ unwatched. (let watched : true ≡ false = c.if-is_watched.ensures ∙ ap (list_any (λ w. w == c.args.place + 1)) c.as_slice.ensures ∙ unwatched in cc),
  λ _. refl,
)
