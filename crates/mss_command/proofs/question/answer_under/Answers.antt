use Rattle.std.proofs.Common.{Err, ap}
use Rattle.std.proofs.lemmas.Result.{err_from_is_err_and}
use Rattle.mss_model.specs.PartsOf.{parts_of}
use Rattle.mss_command.specs.Fetched.{fetched_of}
use Rattle.mss_command.specs.Outcome.{outcome_of}
use Rattle.mss_command.specs.Questions.{AsksUnder, WantedLacks}
use Rattle.mss_command.proofs.Asked.{answered_under}
use Rattle.mss_command.proofs.Prepared.{no_read, replied, stopped}
use Rattle.mss_command.proofs.question.answer_under.Goals as goal

pub returns-in_err-contents : goal.returns-in_err-contents
returns-in_err-contents g c =
    let p = err_from_is_err_and c.from_residual.result c.from_residual.ensures.1 in
    stopped
    (AsksUnder (g.Q.Question.Answers c.args.question.now) (parts_of c.args.tables.now) (g.Q.Question.name c.args.question.now) (g.Q.Question.limit c.args.question.now))
    (WantedLacks (g.Q.Question.name c.args.question.now) (g.Q.Question.limit c.args.question.now)) (g.Q.Question.may_answer c.args.question.now)
    _ _ _ p.0 c.in_err-contents.field-0.0 p.1 p.2 c.in_err-contents.ensures.content c.in_err-contents.ensures.write_faults c.in_err-contents.ensures.later
    (λ failed. rw (c.file.ensures, c.most_bytes.ensures) at (c.in_err-contents.ensures.cause (ap Err failed)))

pub returns-in_err-answer : goal.returns-in_err-answer
returns-in_err-answer g c =
    let p = err_from_is_err_and c.from_residual-in_err-answer.result c.from_residual-in_err-answer.ensures.1 in
    stopped
    (AsksUnder (g.Q.Question.Answers c.args.question.now) (parts_of c.args.tables.now) (g.Q.Question.name c.args.question.now) (g.Q.Question.limit c.args.question.now))
    (WantedLacks (g.Q.Question.name c.args.question.now) (g.Q.Question.limit c.args.question.now)) (g.Q.Question.may_answer c.args.question.now)
    _ _ _ p.0 _ p.1 p.2 c.in_ok-contents.ensures.content c.in_ok-contents.ensures.write_faults c.in_ok-contents.ensures.later
    (λ failed. absurd (no_read failed))

pub returns : goal.returns
returns g c =
    replied
    (AsksUnder (g.Q.Question.Answers c.args.question.now) (parts_of c.args.tables.now) (g.Q.Question.name c.args.question.now) (g.Q.Question.limit c.args.question.now))
    (WantedLacks (g.Q.Question.name c.args.question.now) (g.Q.Question.limit c.args.question.now)) (g.Q.Question.may_answer c.args.question.now)
    _ _ c.in_ok-answer.field-0
    (answered_under (g.Q.Question.Answers c.args.question.now) (parts_of c.args.tables.now) (g.Q.Question.name c.args.question.now) (g.Q.Question.limit c.args.question.now)
    _ (fetched_of c.in_ok-contents.contents) (outcome_of c.in_ok-answer.field-0)
    (rw (c.file.ensures, c.most_bytes.ensures) at c.in_ok-contents.ensures.contents) c.in_ok-answer.ensures.answers)
    c.in_ok-answer.ensures.status c.in_ok-contents.ensures.content c.in_ok-contents.ensures.write_faults c.in_ok-contents.ensures.later
