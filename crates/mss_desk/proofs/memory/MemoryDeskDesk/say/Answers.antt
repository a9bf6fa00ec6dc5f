use Rattle.std.proofs.Common.{◌++◌, ◌/◌, length, take, ap, ◌∙◌}
use Rattle.mss_desk.proofs.memory.MemoryDeskDesk.say.Goals as goal

pub returns-in-Ok-clause-content : goal.returns-in-Ok-clause-content
returns-in-Ok-clause-content c = (
  ap (λ m. m.files) c.self.view_is,
  (length c.args.bytes.now / 2, c.in-Ok.ensures.items ∙ ap (λ m. m.said ++ take (length c.args.bytes.now / 2) c.args.bytes.now) c.self.view_is),
)
