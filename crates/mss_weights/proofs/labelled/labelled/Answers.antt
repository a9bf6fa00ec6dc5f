use Rattle.mss_weights.specs.LabelledNumbersLaws.{no_labelled, is_labelled, without_word}
use Rattle.mss_weights.proofs.labelled.labelled.Goals as goal

pub returns-in_err-after : goal.returns-in_err-after
returns-in_err-after c = rw c.from_residual.ensures (without_word c.args.word.now c.args.bytes.now c.in_err-after.ensures)

pub returns-in_err-number : goal.returns-in_err-number
returns-in_err-number c = rw c.from_residual-in_err-number.ensures
    (no_labelled c.args.word.now c.args.bytes.now c.in_ok-after.field-0.now c.in_ok-after.ensures c.in_err-number.ensures)

pub returns : goal.returns
returns c = is_labelled c.args.word.now c.args.bytes.now c.in_ok-after.field-0.now c.in_ok-number.rest.now c.in_ok-number.number c.in_ok-after.ensures c.in_ok-number.ensures
