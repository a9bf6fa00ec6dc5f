use Rattle.std.proofs.Common.{refl}
use Rattle.mss_weights.proofs.ListFound.{no_line, no_word, no_numbers}
use Rattle.mss_weights.proofs.reading.list.Goals as goal

pub returns-in_default-clause-fault : goal.returns-in_default-clause-fault
returns-in_default-clause-fault c = rw c.fault.ensures (no_line c.args.word.now c.args.bytes.now c.in_default.ensures, refl, refl)

pub returns-in_default-after-clause-fault : goal.returns-in_default-after-clause-fault
returns-in_default-after-clause-fault c = rw c.fault-in_default-after.ensures (
  no_word c.args.word.now c.args.bytes.now c.in-Some.line.now c.in-Some.rest.now c.requires c.in-Some.ensures.0 c.in-Some.ensures.1 c.in_default-after.ensures,
  refl,
  refl,
)

pub returns-in_default-2-clause-fault : goal.returns-in_default-2-clause-fault
returns-in_default-2-clause-fault c =
    let none = rw c.in_default-2.is at c.in_ok-numbers.ensures in
    rw c.fault-in_default-2.ensures (
      no_numbers c.args.word.now c.args.bytes.now c.in-Some.line.now c.in-Some.rest.now c.in-Some-after.spelled.now c.requires c.in-Some.ensures.0
          c.in-Some.ensures.1 c.in-Some-after.ensures none,
      refl,
      refl,
    )
