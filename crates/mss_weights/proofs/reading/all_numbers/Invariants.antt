use Rattle.std.proofs.Common.{◌≡◌, ◌<◌, ◌++◌, length}
use Rattle.mss_lines.specs.Fields.{fields, AreShort, EndsNumber}
use Rattle.mss_weights.proofs.reading.all_numbers.Given as goal

abbrev pub invariant-loop-rest : goal.invariant-loop-rest
invariant-loop-rest l = record {
  short : AreShort l.numbers;
  ended : 0 < length l.numbers → EndsNumber l.rest;
  parts : l.bytes ≡ fields l.numbers ++ l.rest;
}

abbrev pub decreases-loop-rest : goal.decreases-loop-rest
decreases-loop-rest l = length l.rest
