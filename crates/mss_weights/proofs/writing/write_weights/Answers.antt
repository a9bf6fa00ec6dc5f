use Rattle.std.proofs.Common.{◌≡◌, ◌∙◌, ◌++◌, ◌∷◌, [], codes, ap, length, arith}
use Rattle.mss_lines.specs.Fields.{fields}
use Rattle.mss_weights.specs.WeightsText.{head_text, version_text, weights_text}
use Rattle.mss_weights.proofs.WeightsWritten.{all_written, weights-long}
use Rattle.mss_weights.proofs.writing.write_weights.Goals as goal

pub returns-clause-text : goal.returns-clause-text
returns-clause-text c =
    let w = c.args.weights.now in
    all_written w c.push_head.new.text c.push_list.new.text c.push_list-2.new.text c.push_list-3.new.text c.push_list-4.new.text
    (record {
      head = c.in_ok-push_head.ensures ∙ ap (λ t. t ++ (version_text ++ (head_text w.number w.power w.reach ++ 10 ∷ []))) c.make-text.ensures;
      places = c.in_ok-push_list.ensures ∙ ap (λ ns. c.push_head.new.text ++ (codes "places" ++ (fields ns ++ 10 ∷ []))) c.as_slice.ensures;
      blocks = c.in_ok-push_list-2.ensures ∙ ap (λ ns. c.push_list.new.text ++ (codes "blocks" ++ (fields ns ++ 10 ∷ []))) c.as_slice-2.ensures;
      slots = c.in_ok-push_list-3.ensures ∙ ap (λ ns. c.push_list-2.new.text ++ (codes "slots" ++ (fields ns ++ 10 ∷ []))) c.as_slice-3.ensures;
      kinds = c.in_ok-push_list-4.ensures ∙ ap (λ ns. c.push_list-3.new.text ++ (codes "kinds" ++ (fields ns ++ 10 ∷ []))) c.as_slice-4.ensures;
    })

pub returns-clause-few : goal.returns-clause-few
returns-clause-few c = λ many.
    let w = c.args.weights.now in
    let text : c.push_list-4.new.text ≡ weights_text w
    = all_written w c.push_head.new.text c.push_list.new.text c.push_list-2.new.text c.push_list-3.new.text c.push_list-4.new.text
    (record {
      head = c.in_ok-push_head.ensures ∙ ap (λ t. t ++ (version_text ++ (head_text w.number w.power w.reach ++ 10 ∷ []))) c.make-text.ensures;
      places = c.in_ok-push_list.ensures ∙ ap (λ ns. c.push_head.new.text ++ (codes "places" ++ (fields ns ++ 10 ∷ []))) c.as_slice.ensures;
      blocks = c.in_ok-push_list-2.ensures ∙ ap (λ ns. c.push_list.new.text ++ (codes "blocks" ++ (fields ns ++ 10 ∷ []))) c.as_slice-2.ensures;
      slots = c.in_ok-push_list-3.ensures ∙ ap (λ ns. c.push_list-2.new.text ++ (codes "slots" ++ (fields ns ++ 10 ∷ []))) c.as_slice-3.ensures;
      kinds = c.in_ok-push_list-4.ensures ∙ ap (λ ns. c.push_list-3.new.text ++ (codes "kinds" ++ (fields ns ++ 10 ∷ []))) c.as_slice-4.ensures;
    }) in
    omega (arith, weights-long w c.requires, many, ap length text)
