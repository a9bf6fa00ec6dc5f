use Rattle.std.proofs.Common.{◌<◌, length, arith}
use Rattle.std.proofs.lemmas.Bool.Decides.{nat_tests}
use Rattle.mss_weights.proofs.LabelledThree.{without_space, without_second, without_space_again, without_third, goes_on}
use Rattle.mss_weights.proofs.labelled.three_labelled.Goals as goal

pub returns-in_err-after : goal.returns-in_err-after
returns-in_err-after c = rw c.from_residual-in_err-after.ensures
    (without_space c.args.line.now c.args.first.now c.args.second.now c.args.third.now c.in_ok-a.rest.now c.in_ok-a.a c.in_ok-a.ensures c.in_err-after.ensures)

pub returns-in_err-b : goal.returns-in_err-b
returns-in_err-b c = rw c.from_residual-in_err-b.ensures
    (without_second c.args.line.now c.args.first.now c.args.second.now c.args.third.now c.in_ok-after.field-0.now
    (record { number = c.in_ok-a.a; rest = c.in_ok-a.rest.now; found = c.in_ok-a.ensures; spaced = c.in_ok-after.ensures }) c.in_err-b.ensures)

pub returns-in_err-after-2 : goal.returns-in_err-after-2
returns-in_err-after-2 c = rw c.from_residual-in_err-after-2.ensures
    (without_space_again c.args.line.now c.args.first.now c.args.second.now c.args.third.now c.in_ok-after.field-0.now c.in_ok-b.rest.now c.in_ok-b.b
    (record { number = c.in_ok-a.a; rest = c.in_ok-a.rest.now; found = c.in_ok-a.ensures; spaced = c.in_ok-after.ensures }) c.in_ok-b.ensures c.in_err-after-2.ensures)

pub returns-in_err-c : goal.returns-in_err-c
returns-in_err-c c = rw c.from_residual-in_err-c.ensures
    (without_third c.args.line.now c.args.first.now c.args.second.now c.args.third.now c.in_ok-after-2.field-0.now
    (record {
      before = c.in_ok-after.field-0.now;
      front = record { number = c.in_ok-a.a; rest = c.in_ok-a.rest.now; found = c.in_ok-a.ensures; spaced = c.in_ok-after.ensures };
      number = c.in_ok-b.b;
      rest = c.in_ok-b.rest.now;
      found = c.in_ok-b.ensures;
      spaced = c.in_ok-after-2.ensures;
    }) c.in_err-c.ensures)

pub returns-else-is_empty : goal.returns-else-is_empty
returns-else-is_empty c =
    let some : 0 < length c.in_ok-c.rest.now = grind (arith, nat_tests) in
    goes_on c.args.line.now c.args.first.now c.args.second.now c.args.third.now c.in_ok-after-2.field-0.now c.in_ok-c.rest.now c.in_ok-c.c
    (record {
      before = c.in_ok-after.field-0.now;
      front = record { number = c.in_ok-a.a; rest = c.in_ok-a.rest.now; found = c.in_ok-a.ensures; spaced = c.in_ok-after.ensures };
      number = c.in_ok-b.b;
      rest = c.in_ok-b.rest.now;
      found = c.in_ok-b.ensures;
      spaced = c.in_ok-after-2.ensures;
    }) c.in_ok-c.ensures some
