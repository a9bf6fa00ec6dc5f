use Rattle.std.proofs.Common.{ap, ◌∙◌}
use Rattle.std.specs.FinMap as map
use Rattle.mss_desk.proofs.Others.{same_but_set}
use Rattle.mss_desk.proofs.memory.MemoryDeskDesk.put.Goals as goal

pub returns-in-Ok-clause-content : goal.returns-in-Ok-clause-content
returns-in-Ok-clause-content c = (
  λ q differs. ap (λ m. map.get m q) c.in-Ok.ensures.ok ∙ same_but_set c.self.inside.shelf c.args.name.now _ q differs ∙ ap (λ m. map.get m.files q) c.self.view_is,
  ap (λ m. m.said) c.self.view_is,
)
