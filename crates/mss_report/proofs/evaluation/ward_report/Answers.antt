use Rattle.std.proofs.Common.{◌≡◌, ◌∙◌, ap, arith}
use Rattle.mss_model.specs.declared.parts.TableParts.{TableParts}
use Rattle.mss_model.specs.PartsOf.{parts_of}
use Rattle.mss_enclose.specs.Words.{masses_list}
use Rattle.mss_census.specs.declared.quantity.Quantity.TheVariants.{Census}
use Rattle.mss_census.specs.CensusView.{CensusView}
use Rattle.mss_pctl.specs.CensusPeak.{kept_census}
use Rattle.mss_pctl.specs.CensusStandsLaws.{shown}
use Rattle.mss_pctl.specs.CyclePeakLaws.{day_counted}
use Rattle.mss_report.specs.Evaluation.{day_report}
use Rattle.mss_report.proofs.ReportHolds.{small-list, one-more}
use Rattle.mss_report.proofs.evaluation.ward_report.Goals as goal

pub with_census-requires-clause-small : goal.with_census-requires-clause-small
with_census-requires-clause-small g c =
    small-list Census (parts_of c.args.tables.now) c.args.cycle.now (masses_list c.value.result.now) c.args.ward c.loop-day.day c.args.tables.now.good
    (omega (arith, c.requires.ward.0)) (omega (arith, c.requires.slots))
    (shown (parts_of c.args.tables.now) c.args.cycle.now (masses_list c.value.result.now) c.args.ward c.loop-day.day c.loop-day.workload.census c.day_report.new.workload.census
    c.loop-day.invariant.census c.in_ok-report.ensures.census c.value.ensures.list)

pub loop-day-preserved : goal.loop-day-preserved
loop-day-preserved g c =
    let t : TableParts = parts_of c.args.tables.now in
    let list : masses_list c.value.result.now ≡ kept_census t c.args.cycle.now c.args.ward c.loop-day.day
    = shown t c.args.cycle.now (masses_list c.value.result.now) c.args.ward c.loop-day.day c.loop-day.workload.census c.day_report.new.workload.census
    c.loop-day.invariant.census c.in_ok-report.ensures.census c.value.ensures.list in
    record {
      first = omega arith;
      last = omega (arith, c.days-day-end.ensures.value);
      census = ap (λ (v : CensusView). v.lists)
          {y = record { lists = c.loop-day.workload.census.lists; ward = c.args.ward; day = c.loop-day.day; options = c.args.cycle.now }} c.in_ok-report.ensures.census
          ∙ c.loop-day.invariant.census;
      moves = c.in_ok-report.ensures.moves ∙ c.loop-day.invariant.moves;
      days = one-more (day_report t c.args.cycle.now c.args.ward) c.loop-day.day c.loop-day.days.items c.push.new.self.items c.in_ok-report.report
          c.loop-day.invariant.first c.loop-day.invariant.days c.in_ok-report.ensures.value c.in_ok-push.ensures.items;
      peak = λ places before.
          day_counted t c.args.cycle.now (masses_list c.value.result.now) c.args.ward c.loop-day.day c.loop-day.peak c.with_census.result places
          c.loop-day.invariant.first list c.with_census.ensures (c.loop-day.invariant.peak places before);
    }
