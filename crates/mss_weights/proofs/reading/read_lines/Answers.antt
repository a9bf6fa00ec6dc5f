use Rattle.std.proofs.Common.{refl}
use Rattle.std.proofs.lemmas.Result.{err_from_is_err_and}
use Rattle.mss_weights.specs.WeightTextsLaws.{is_after_head, lacks_head, other_head, refused_text}
use Rattle.mss_weights.proofs.reading.read_lines.Goals as goal

pub returns-in_default-first_line-clause-fault : goal.returns-in_default-first_line-clause-fault
returns-in_default-first_line-clause-fault c = rw c.fault-in_default-first_line.ensures
    (lacks_head c.args.bytes.now c.in-Some.rest.now c.in-Some.ensures c.in_default-first_line.ensures, refl)

pub returns-in_default-three_labelled-clause-fault : goal.returns-in_default-three_labelled-clause-fault
returns-in_default-three_labelled-clause-fault c = rw c.fault-in_default-three_labelled.ensures (
  other_head c.args.bytes.now c.in-Some.rest.now c.in-Some-first_line.line.now c.in-Some-first_line.rest.now c.in-Some.ensures
      c.in-Some-first_line.ensures.0 c.in-Some-first_line.ensures.1 c.in_default-three_labelled.ensures,
  refl,
)

pub returns-in_err-places-clause-fault : goal.returns-in_err-places-clause-fault
returns-in_err-places-clause-fault c =
    let p = err_from_is_err_and c.from_residual.result c.from_residual.ensures.1 in
    let later = c.in-Some-first_line.rest.now in
    rw (p.1, p.2)
    (refused_text c.args.bytes.now later
    (is_after_head c.args.bytes.now c.in-Some.rest.now c.in-Some-first_line.line.now later c.in-Some-three_labelled.number c.in-Some-three_labelled.power
    c.in-Some-three_labelled.reach c.in-Some.ensures c.in-Some-first_line.ensures.1 c.in-Some-three_labelled.ensures.0 c.in-Some-three_labelled.ensures.1)
    c.in_err-places.field-0.0 c.in_err-places.ensures.fault)
