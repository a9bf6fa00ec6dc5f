use Rattle.std.proofs.Common.{◌≡◌, ◌++◌, take}
use Rattle.mss_lines.specs.Fields.{fields}
use Rattle.mss_weights.proofs.writing.push_list.Given as goal

abbrev pub invariant-loop-number : goal.invariant-loop-number
invariant-loop-number l = l.text ≡ l.fn.text ++ (l.word ++ fields (take l.number-index l.numbers))
