use Rattle.std.proofs.Common.{Err, ap, refl}
use Rattle.mss_command.specs.Outcome.{outcome_of}
use Rattle.mss_command.proofs.Answered.{answered_first, answered_fully, answered_partly, comes_lacking, comes_short, comes_to, kept_promise, not_begun}
use Rattle.mss_command.proofs.Prepared.{is_ending, no_read_fault, no_want, no_write_fault}
use Rattle.mss_command.proofs.command.carry_out.Goals as goal

pub returns-in-Done-clause-promise : goal.returns-in-Done-clause-promise
returns-in-Done-clause-promise g c = λ plain.
    kept_promise (g.C.Command.Defines c.args.command.now) (outcome_of c.in-Ok.reply) (g.C.Command.Promised c.args.command.now) (g.met.C.Command.keeps c.args.command.now (outcome_of c.in-Ok.reply))
    _ _ _ c.in-Ok.ensures.content c.in-Ok.ensures.reply c.in-Done.ensures.content

pub returns-in-Failed-clause-write_fault : goal.returns-in-Failed-clause-write_fault
returns-in-Failed-clause-write_fault g c = λ _. (
  rw (← c.in-Ok.ensures.write_faults) (c.in-Failed.ensures.cause refl),
  answered_partly (g.C.Command.Defines c.args.command.now) (outcome_of c.in-Ok.reply) _ _ _ c.in-Ok.ensures.content c.in-Ok.ensures.reply c.in-Failed.ensures.content,
)

pub returns-in-Done-clause-ends : goal.returns-in-Done-clause-ends
returns-in-Done-clause-ends g c = λ plain. is_ending (g.C.Command.may_end c.args.command.now) c.in-Ok.reply.status c.in-Ok.ensures.status

pub returns-in-Done-clause-read_fault : goal.returns-in-Done-clause-read_fault
returns-in-Done-clause-read_fault g c = λ is. absurd (no_read_fault (g.C.Command.may_end c.args.command.now) c.in-Ok.reply.status c.in-Ok.ensures.status is)

pub returns-in-Done-clause-write_fault : goal.returns-in-Done-clause-write_fault
returns-in-Done-clause-write_fault g c = λ is. absurd (no_write_fault (g.C.Command.may_end c.args.command.now) c.in-Ok.reply.status c.in-Ok.ensures.status is)

pub returns-in-Done-clause-memory : goal.returns-in-Done-clause-memory
returns-in-Done-clause-memory g c = λ is. absurd (no_want (g.C.Command.may_end c.args.command.now) c.in-Ok.reply.status c.in-Ok.ensures.status is)

pub returns-in-Done-clause-plain : goal.returns-in-Done-clause-plain
returns-in-Done-clause-plain g c = λ plain.
    answered_fully (g.C.Command.Defines c.args.command.now) (outcome_of c.in-Ok.reply) _ _ _ c.in-Ok.ensures.content c.in-Ok.ensures.reply c.in-Done.ensures.content

pub returns-in-Done-clause-complete : goal.returns-in-Done-clause-complete
returns-in-Done-clause-complete g c = λ _ _. comes_to (g.C.Command.Defines c.args.command.now) (outcome_of c.in-Ok.reply) (g.C.Command.Lacks c.args.command.now) _ c.in-Ok.ensures.reply

pub returns-in-Failed-clause-complete : goal.returns-in-Failed-clause-complete
returns-in-Failed-clause-complete g c = λ _ calm. absurd (calm (rw (← c.in-Ok.ensures.write_faults) (c.in-Failed.ensures.cause refl)))

pub returns-clause-memory : goal.returns-clause-memory
returns-clause-memory g c = λ _.
    answered_first (g.C.Command.Defines c.args.command.now) (outcome_of c.in-Ok.reply) _ _ _ c.in-Ok.ensures.content c.in-Ok.ensures.reply c.in-NoMemory.ensures.content

pub returns-clause-complete : goal.returns-clause-complete
returns-clause-complete g c = λ _ _. comes_short (g.C.Command.Defines c.args.command.now) (g.C.Command.Lacks c.args.command.now) _

pub returns-in-Err-Memory-clause-memory : goal.returns-in-Err-Memory-clause-memory
returns-in-Err-Memory-clause-memory g c = λ _. not_begun (g.C.Command.Defines c.args.command.now) _ _ c.in-Err-Memory.ensures.content

pub returns-in-Err-Memory-clause-complete : goal.returns-in-Err-Memory-clause-complete
returns-in-Err-Memory-clause-complete g c = λ _ _. comes_short (g.C.Command.Defines c.args.command.now) (g.C.Command.Lacks c.args.command.now) _

pub returns-in-Err-Read-clause-read_fault : goal.returns-in-Err-Read-clause-read_fault
returns-in-Err-Read-clause-read_fault g c = λ _. (c.in-Err-Read.ensures.cause (ap Err c.in-Err-Read.field-0-is), c.in-Err-Read.ensures.content)

pub returns-in-Err-Read-clause-complete : goal.returns-in-Err-Read-clause-complete
returns-in-Err-Read-clause-complete g c = λ calm _.
    comes_lacking (g.C.Command.Defines c.args.command.now) (g.C.Command.Lacks c.args.command.now) _ _ _ calm (c.in-Err-Read.ensures.cause (ap Err c.in-Err-Read.field-0-is))
