use Rattle.std.proofs.Common.{arith, ◌∙◌}
use Rattle.mss_command.proofs.Delivered.{more_put, failed_put, wanting_put, said_after}
use Rattle.mss_command.proofs.deliver.deliver.Goals as goal

pub loop-put-preserved : goal.loop-put-preserved
loop-put-preserved g c = record {
  content = more_put _ _ _ c.args.reply.now.puts.items c.loop-put.put-index c.put-item.result c.bytes.result.now
      (omega (arith, c.loop-put-test.true, c.deref-put-items.ensures.len)) (rw (← c.deref-put-items.ensures.value) c.put-item.is) c.bytes.ensures
      c.loop-put.invariant.content c.in-Done.ensures.content;
  read_faults = c.in-Done.ensures.read_faults ∙ c.loop-put.invariant.read_faults;
  later = omega (arith, c.in-Done.ensures.later, c.loop-put.invariant.later);
}

pub returns-in-Failed-clause-content : goal.returns-in-Failed-clause-content
returns-in-Failed-clause-content g c =
    failed_put _ _ _ c.args.reply.now c.loop-put.put-index c.put-item.result c.bytes.result.now
    (omega (arith, c.loop-put-test.true, c.deref-put-items.ensures.len)) (rw (← c.deref-put-items.ensures.value) c.put-item.is) c.bytes.ensures
    c.loop-put.invariant.content c.in-Failed.ensures.content

pub returns-in-NoMemory-clause-content : goal.returns-in-NoMemory-clause-content
returns-in-NoMemory-clause-content g c =
    wanting_put _ _ _ c.args.reply.now c.loop-put.put-index c.put-item.result c.bytes.result.now c.loop-put.invariant.content c.in-NoMemory.ensures.content

pub returns-clause-content : goal.returns-clause-content
returns-clause-content g c =
    said_after _ _ _ c.args.reply.now c.loop-put.put-index c.bytes-2.result.now c.say.result
    (omega (arith, c.loop-put-test.false, c.deref-put-items.ensures.len)) c.bytes-2.ensures c.loop-put.invariant.content c.say.ensures.content
