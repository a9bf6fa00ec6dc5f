use Rattle.std.proofs.Common.{◌≡◌, ◌≤◌, length}
use Rattle.mss_desk.specs.Desk.{IfTold}
use Rattle.mss_tables.specs.TablesMeaning.{AreWithin}
use Rattle.mss_command.proofs.Gathered.{AreRead}
use Rattle.mss_command.proofs.gather.gather.Given as goal

abbrev pub invariant-loop-file : goal.invariant-loop-file
invariant-loop-file g l = record {
  ten : length l.files ≡ 10;
  within : AreWithin l.files;
  read : IfTold (g.D.Desk.seen l.initial.desk).told (λ c. AreRead c.files l.files l.file);
  content : (g.D.Desk.seen l.desk).told ≡ (g.D.Desk.seen l.initial.desk).told;
  write_faults : (g.D.Desk.seen l.desk).write_faults ≡ (g.D.Desk.seen l.initial.desk).write_faults;
  later : (g.D.Desk.seen l.initial.desk).read_faults ≤ (g.D.Desk.seen l.desk).read_faults;
}
