use Rattle.std.proofs.Common.{ap, ◌∙◌}
use Rattle.std.specs.FinMap as map
use Rattle.std.specs.String.{string_bytes}
use Rattle.mss_desk.specs.Shelf.{shelved}
use Rattle.mss_desk.proofs.Shelved.{shelved_set}
use Rattle.mss_desk.proofs.shelf.Shelf.set.Goals as goal

pub returns-clause-ok : goal.returns-clause-ok
returns-clause-ok c =
    shelved_set c.self.inside.files c.insert.new.self (string_bytes c.in_ok-key.key) c.args.bytes.now c.in_ok-value.value (c.in_ok-value.ensures.items_if_clones_equal (λ x y e. e)) c.in_ok-insert.ensures.updates
    ∙ ap (λ name. map.insert (shelved c.self.inside.files.entries) name c.args.bytes.now) c.in_ok-key.ensures.ok
    ∙ ap (λ m. map.insert m c.args.name.now c.args.bytes.now) c.self.view_is
