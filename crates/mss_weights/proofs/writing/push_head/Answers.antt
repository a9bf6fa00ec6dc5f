use Rattle.std.proofs.Common.{◌∙◌, ◌++◌, ◌∷◌, [], codes, ap}
use Rattle.std.proofs.lemmas.Result.{on_ok_weaker}
use Rattle.mss_weights.specs.LabelledNumbersLaws.{three-onto}
use Rattle.mss_weights.specs.WeightsText.{version_text}
use Rattle.mss_weights.proofs.writing.push_head.Goals as goal

pub returns : goal.returns
returns c =
    let w = c.args.weights.now in
    let shown = c.as_bytes.ensures.value ∙ c.in_ok-lines.ensures.ok
    ∙ ap (λ xs. version_text ++ xs) (three-onto (codes "number") (codes "power") (codes "reach") w.number w.power w.reach (10 ∷ [])) in
    on_ok_weaker c.push.result (λ e. e ∙ ap (λ xs. c.args.text.now ++ xs) shown) c.push.ensures.ok
