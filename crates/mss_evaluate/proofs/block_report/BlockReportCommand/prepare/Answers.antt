use Rattle.mss_command.specs.Fetched.{fetched, fetched_of, file_limit}
use Rattle.mss_command.specs.Outcome.{outcome_of}
use Rattle.mss_evaluate.specs.Block.{BlockDefines, block_file}
use Rattle.mss_evaluate.proofs.Defined.{defined}
use Rattle.mss_evaluate.proofs.block_report.BlockReportCommand.prepare.Goals as goal

pub returns : goal.returns
returns g c = record {
  reply = defined (g.D.Desk.seen c.args.desk.now).told (λ d. fetched file_limit d.files block_file) (fetched_of c.in_ok-contents.contents)
      (λ f. BlockDefines f (outcome_of c.in_ok-block_reply.field-0)) c.in_ok-contents.ensures.contents c.in_ok-block_reply.ensures.defines;
  status = c.in_ok-block_reply.ensures.status;
  content = c.in_ok-contents.ensures.content;
  write_faults = c.in_ok-contents.ensures.write_faults;
  later = c.in_ok-contents.ensures.later;
  cause = λ failed. absurd cc;
}
