use Rattle.std.proofs.Common.{◌∙◌, ◌<◌, ◌++◌, length, sym, ap, arith}
use Rattle.std.proofs.lemmas.Bool.Decides.{nat_tests}
use Rattle.mss_lines.specs.Fields.{fields}
use Rattle.mss_lines.specs.SpacedNumbersLaws.{fields-more, no_fields, short-more}
use Rattle.mss_weights.proofs.reading.all_numbers.Goals as goal

pub returns-in_default : goal.returns-in_default
returns-in_default c = λ numbers short h.
    let some : 0 < length c.loop-rest.rest.now = grind (arith, nat_tests) in
    no_fields c.loop-rest.numbers numbers c.args.bytes.now c.loop-rest.rest.now c.loop-rest.invariant.short short c.loop-rest.invariant.ended
    c.loop-rest.invariant.parts some c.in_default.ensures h

pub loop-rest-preserved : goal.loop-rest-preserved
loop-rest-preserved c =
    let numbers = c.loop-rest.numbers in let number = c.in-Some.number in let others = c.in-Some.others.now in
    rw c.in_ok-push.ensures.ok (record {
      short = short-more numbers number c.loop-rest.invariant.short c.in-Some.ensures.short;
      ended = λ _. c.in-Some.ensures.ended;
      parts = c.loop-rest.invariant.parts ∙ ap (λ r. fields numbers ++ r) c.in-Some.ensures.parts ∙ sym (fields-more numbers number others);
    })
