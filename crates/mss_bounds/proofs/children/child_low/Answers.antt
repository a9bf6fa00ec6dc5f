use Rattle.std.proofs.Common.{sym, ◌∙◌}
use Rattle.mss_model.specs.PartsOf.{parts_of}
use Rattle.mss_census.specs.WardLists.{lists_of}
use Rattle.mss_bounds.specs.Children.{parent_of}
use Rattle.mss_bounds.specs.Spots.{place_of}
use Rattle.mss_bounds.proofs.FilledLists.{shown-list}
use Rattle.mss_bounds.proofs.Siblings.{low-beside}
use Rattle.mss_bounds.proofs.children.child_low.Goals as goal

-- the last option is of another ward
pub returns-then-not-lies_on-clause-value : goal.returns-then-not-lies_on-clause-value
returns-then-not-lies_on-clause-value g c =
    let E = g.E.Enclosure in
    c.requires.idle ∙ low-beside E.joined E.low_of (parts_of c.args.tables.now) c.args.child.now (place_of c.args.spot) c.requires.some
    (sym c.lies_on.ensures ∙ c.if-not-lies_on.true)

pub low-requires-clause-list : goal.low-requires-clause-list
low-requires-clause-list g c =
    let E = g.E.Enclosure in
    shown-list E.joined (lists_of (parts_of c.args.tables.now)) c.args.child.now (E.items c.value.result.now) (parent_of c.args.child.now) c.args.spot.ward c.args.spot.day
    c.args.census.now c.resume.new.self c.go_on.new.census c.requires.tables c.resume.ensures c.go_on.ensures.shown c.value.ensures.list
