use Rattle.std.proofs.Common.{◌≡◌, ◌∙◌, ◌++◌, take, get_or, refl, ap, take_all}
use Rattle.std.proofs.lemmas.Result.{on_ok_weaker}
use Rattle.mss_lines.specs.Fields.{fields}
use Rattle.mss_weights.proofs.WeightsWritten.{number_written, line_written}
use Rattle.mss_weights.proofs.writing.push_list.Goals as goal

pub loop-number-preserved : goal.loop-number-preserved
loop-number-preserved c =
    number_written c.args.text.now c.loop-number.text c.push_number.new.text c.args.word.now c.args.numbers.now c.loop-number.number-index
    (get_or c.args.numbers.now c.loop-number.number-index 0) c.loop-number-test.true refl c.loop-number.invariant c.in_ok-push_number.ensures

pub returns : goal.returns
returns c =
    let numbers = c.args.numbers.now in let i = c.loop-number.number-index in
    let all : take i numbers ≡ numbers = take_all i numbers c.loop-number-test.false in
    let text : c.loop-number.text ≡ c.args.text.now ++ (c.args.word.now ++ fields numbers)
    = c.loop-number.invariant ∙ ap (λ ns. c.args.text.now ++ (c.args.word.now ++ fields ns)) all in
    on_ok_weaker c.push-2.result (λ e. line_written c.args.text.now c.loop-number.text c.push-2.new.self c.args.word.now numbers text e) c.push-2.ensures.ok
