use Rattle.mss_generate.proofs.PutSteps.{put_more}
use Rattle.mss_generate.proofs.own_tables.puts_of.Goals as goal

pub loop-file-preserved : goal.loop-file-preserved
loop-file-preserved c = rw c.in_ok-push.ensures.items (put_more c.args.files.now c.loop-file.puts.items c.in_ok-put_file.field-0 c.loop-file.file c.loop-file.invariant c.in_ok-put_file.ensures)
