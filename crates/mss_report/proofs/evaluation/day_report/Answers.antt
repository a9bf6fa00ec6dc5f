use Rattle.std.proofs.Common.{arith}
use Rattle.mss_model.specs.PartsOf.{parts_of}
use Rattle.mss_enclose.specs.Words.{masses_list}
use Rattle.mss_census.specs.declared.quantity.Quantity.TheVariants.{Census, Admissions, Discharges}
use Rattle.mss_pctl.specs.CensusStandsLaws.{shown}
use Rattle.mss_report.proofs.ReportHolds.{small-list, short-list}
use Rattle.mss_report.proofs.evaluation.day_report.Goals as goal

pub of-requires-clause-small : goal.of-requires-clause-small
of-requires-clause-small g c =
    small-list Census (parts_of c.args.tables.now) c.args.cycle.now (masses_list c.value.result.now) c.args.ward c.args.day c.args.tables.now.good
    (omega (arith, c.requires.ward.0)) (omega (arith, c.requires.slots))
    (shown (parts_of c.args.tables.now) c.args.cycle.now (masses_list c.value.result.now) c.args.ward c.args.day c.args.workload.now.census c.set_prefix.new.self c.requires.census
    (rw c.options.ensures at c.set_prefix.ensures) c.value.ensures.list)

pub of-requires-clause-short : goal.of-requires-clause-short
of-requires-clause-short g c =
    short-list Census (parts_of c.args.tables.now) c.args.cycle.now (masses_list c.value.result.now) c.args.ward c.args.day c.args.tables.now.good
    (omega (arith, c.requires.ward.0)) (omega (arith, c.requires.slots))
    (shown (parts_of c.args.tables.now) c.args.cycle.now (masses_list c.value.result.now) c.args.ward c.args.day c.args.workload.now.census c.set_prefix.new.self c.requires.census
    (rw c.options.ensures at c.set_prefix.ensures) c.value.ensures.list)

pub of-requires-2-clause-small : goal.of-requires-2-clause-small
of-requires-2-clause-small g c =
    small-list Admissions (parts_of c.args.tables.now) c.args.cycle.now _ c.args.ward c.args.day c.args.tables.now.good
    (omega (arith, c.requires.ward.0)) (omega (arith, c.requires.slots)) c.admissions-list.ensures.list

pub of-requires-2-clause-short : goal.of-requires-2-clause-short
of-requires-2-clause-short g c =
    short-list Admissions (parts_of c.args.tables.now) c.args.cycle.now _ c.args.ward c.args.day c.args.tables.now.good
    (omega (arith, c.requires.ward.0)) (omega (arith, c.requires.slots)) c.admissions-list.ensures.list

pub of-requires-3-clause-small : goal.of-requires-3-clause-small
of-requires-3-clause-small g c =
    small-list Discharges (parts_of c.args.tables.now) c.args.cycle.now _ c.args.ward c.args.day c.args.tables.now.good
    (omega (arith, c.requires.ward.0)) (omega (arith, c.requires.slots)) c.discharges-list.ensures.list

pub of-requires-3-clause-short : goal.of-requires-3-clause-short
of-requires-3-clause-short g c =
    short-list Discharges (parts_of c.args.tables.now) c.args.cycle.now _ c.args.ward c.args.day c.args.tables.now.good
    (omega (arith, c.requires.ward.0)) (omega (arith, c.requires.slots)) c.discharges-list.ensures.list
