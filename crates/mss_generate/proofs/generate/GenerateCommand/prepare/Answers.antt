use Rattle.std.proofs.Common.{refl, arith}
use Rattle.mss_command.specs.Outcome.{outcome_of}
use Rattle.mss_generate.specs.Generates.{Generates}
use Rattle.mss_generate.proofs.Told.{told}
use Rattle.mss_generate.proofs.generate.GenerateCommand.prepare.Goals as goal

pub returns : goal.returns
returns g c = record {
  reply = told (g.D.Desk.seen c.args._desk.now).told (Generates c.args.self.now.number c.args.self.now.size (outcome_of c.in_ok-generate_reply.field-0)) c.in_ok-generate_reply.ensures.defines;
  status = c.in_ok-generate_reply.ensures.status;
  content = refl;
  write_faults = refl;
  later = omega arith;
  cause = λ failed. absurd cc;
}
