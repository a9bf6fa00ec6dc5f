use Rattle.std.proofs.Common.{◌≡◌, ◌≤◌, map, take}
use Rattle.mss_desk.specs.Desk.{BothTold}
use Rattle.mss_command.specs.Outcome.{put_of}
use Rattle.mss_command.proofs.Delivered.{DidPuts}
use Rattle.mss_command.proofs.deliver.deliver.Given as goal

abbrev pub invariant-loop-put : goal.invariant-loop-put
invariant-loop-put g l = record {
  content : BothTold (g.D.Desk.seen l.initial.desk).told (g.D.Desk.seen l.desk).told (DidPuts (map put_of (take l.put-index l.reply.puts.items)));
  read_faults : (g.D.Desk.seen l.desk).read_faults ≡ (g.D.Desk.seen l.initial.desk).read_faults;
  later : (g.D.Desk.seen l.initial.desk).write_faults ≤ (g.D.Desk.seen l.desk).write_faults;
}
