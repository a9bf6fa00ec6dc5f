use Rattle.mss_command.proofs.Asked.{asked}
use Rattle.mss_command.proofs.question.ask.Goals as goal

pub returns-in-Tables : goal.returns-in-Tables
returns-in-Tables g c =
    asked (g.Q.Question.Answers c.args.question.now) (g.Q.Question.name c.args.question.now) (g.Q.Question.limit c.args.question.now)
    c.in-Tables.tables (g.Q.Question.may_answer c.args.question.now) _ _ _ _ (rw c.in-Tables.is at c.in_ok-judged.ensures.judges)
    c.in_ok-judged.ensures.content c.in_ok-judged.ensures.write_faults c.in_ok-judged.ensures.later c.answer_under-reply.ensures
