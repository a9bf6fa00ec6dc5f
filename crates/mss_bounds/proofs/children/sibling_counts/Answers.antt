use Rattle.std.proofs.Common.{◌<◌, length, rules, ap, sym, ◌∙◌}
use Rattle.mss_model.specs.PartsOf.{parts_of}
use Rattle.mss_floor.specs.ForcedBlocks.{forced}
use Rattle.mss_bounds.proofs.Siblings.{forced-of-child}
use Rattle.mss_bounds.proofs.children.sibling_counts.Goals as goal

pub returns-then-option-gt0 : goal.returns-then-option-gt0
returns-then-option-gt0 c =
    let inside : c.from.result < length c.args.idle.now = search rules in
    forced-of-child (parts_of c.args.tables.now) c.args.child.now c.args.idle.now c.from.result c.forced.result c.requires.some c.from.ensures inside
    c.requires.idle (c.forced.ensures.value ∙ ap (forced (parts_of c.args.tables.now) c.args.child.now) (sym c.from.ensures))
