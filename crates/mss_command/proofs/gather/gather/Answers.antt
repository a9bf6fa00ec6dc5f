use Rattle.std.proofs.Common.{Err, ap, ◌∙◌}
use Rattle.std.proofs.lemmas.Result.{err_from_is_err_and}
use Rattle.mss_command.specs.Fetched.{fetched_of}
use Rattle.mss_command.specs.declared.reply.Stop.TheVariants as stops
use Rattle.mss_command.proofs.Gathered.{named, told_all, told_long, told_cause}
use Rattle.mss_command.proofs.Prepared.{stop_is}
use Rattle.mss_command.proofs.gather.gather.Goals as goal

pub returns-in_err-bytes-clause-cause : goal.returns-in_err-bytes-clause-cause
returns-in_err-bytes-clause-cause g c = λ failed.
    let p = err_from_is_err_and c.from_residual.result c.from_residual.ensures.1 in
    told_cause _ _ _ _ _ _ _ _ c.loop-file.invariant.content c.loop-file.invariant.later c.loop-file-test.true (c.file_name.ensures ∙ named _ c.loop-file-test.true)
    c.loop-file.invariant.read (c.in_err-bytes.ensures.cause (ap Err (stop_is c.from_residual.result p.0 _ stops.Read p.1 p.2 failed)))

pub returns-in_default-clause-gathered : goal.returns-in_default-clause-gathered
returns-in_default-clause-gathered g c =
    told_long _ _ _ _ _ _ c.loop-file.invariant.content c.loop-file-test.true (c.file_name.ensures ∙ named _ c.loop-file-test.true) (ap fetched_of c.in_default.is)
    c.loop-file.invariant.read c.in_ok-bytes.ensures.contents

pub returns-clause-gathered : goal.returns-clause-gathered
returns-clause-gathered g c = told_all _ _ _ c.loop-file.invariant.ten c.loop-file-test.false c.loop-file.invariant.read
