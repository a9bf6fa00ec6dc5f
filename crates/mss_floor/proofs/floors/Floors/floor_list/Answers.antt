use Rattle.std.proofs.Common.{◌-◌, ap, ◌∙◌}
use Rattle.mss_model.specs.PartsOf.{parts_of}
use Rattle.mss_enclose.specs.Words.{mass_lists}
use Rattle.mss_floor.specs.KnownListsLaws.{lists-known}
use Rattle.mss_floor.proofs.floors.Floors.floor_list.Goals as goal

pub set_floor-requires-clause-lists : goal.set_floor-requires-clause-lists
set_floor-requires-clause-lists c =
    lists-known (parts_of c.args.tables.now) mass_lists c.self.inside.steady.items c.index.result.now c.args.j (c.from.result - 1) c.args.tables.now.good
    (c.self.view_is ∙ c.requires.tables) c.requires.specialty (ap (λ n. n - 1) c.from.ensures) c.index.ensures
