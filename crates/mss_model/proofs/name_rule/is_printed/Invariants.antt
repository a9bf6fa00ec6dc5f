use Rattle.std.proofs.Common.{◌≡◌, drop}
use Rattle.std.specs.List.{list_all}
use Rattle.mss_model.specs.NameRule.{is_printed_byte}
use Rattle.mss_model.proofs.name_rule.is_printed.Given as goal

abbrev pub invariant-loop-byte : goal.invariant-loop-byte
invariant-loop-byte l = list_all is_printed_byte l.bytes ≡ list_all is_printed_byte (drop l.byte-index l.bytes)
