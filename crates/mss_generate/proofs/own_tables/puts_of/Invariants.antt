use Rattle.std.proofs.Common.{◌≡◌, map}
use Rattle.mss_command.specs.Outcome.{put_of}
use Rattle.mss_generate.specs.Puts.{first_puts}
use Rattle.mss_generate.proofs.own_tables.puts_of.Given as goal

abbrev pub invariant-loop-file : goal.invariant-loop-file
invariant-loop-file l = map put_of l.puts.items ≡ first_puts l.file l.files
