use Rattle.std.proofs.Common.{◌≤◌, ◌++◌, sym, subst}
use Rattle.mss_model.specs.Census.{census}
use Rattle.mss_model.specs.PartsOf.{parts_of}
use Rattle.mss_model.specs.Percentile.{percentile_at}
use Rattle.mss_floor.specs.FlooredLowLaws.{floored_low-at_most}
use Rattle.mss_floor.specs.ForcedFloorsLaws.{floored-lies_below}
use Rattle.mss_floor.proofs.floors.Floors.push_floors.Goals as goal

pub returns-clause-low : goal.returns-clause-low
returns-clause-low g c = λ rest level legal stands.
    let E = g.E.Enclosure in
    let L = g.met.E.Enclosure in
    let t = parts_of c.args.tables.now in
    subst (λ l. E.low_of l level ≤ percentile_at (census t c.args.ward c.args.day (c.args.prefix.now ++ rest)) level) (sym c.push_forced.ensures.value)
    (floored_low-at_most E.joined E.stands_for E.low_of L.sums L.low_at_most t c.args.prefix.now rest c.args.ward c.args.day level (E.items c.args.value.now) c.args.tables.now.good legal stands)

pub returns-clause-below : goal.returns-clause-below
returns-clause-below g c = λ rest list legal stands.
    floored-lies_below (parts_of c.args.tables.now) c.args.prefix.now rest c.args.ward c.args.day list c.args.tables.now.good legal stands
