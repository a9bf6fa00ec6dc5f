use Rattle.std.proofs.Common.{◌≡◌, ◌-◌, ◌*◌, ◌≤◌, ◌∙◌, List, length, ap, map, arith, mul-le-mul}
use Rattle.std.specs.Prelude.{flat_map}
use Rattle.std.specs.List.{range_with_len}
use Rattle.mss_model.specs.declared.parts.TableParts.{TableParts}
use Rattle.mss_model.specs.TableWords.{slot_count, ward_count}
use Rattle.mss_model.specs.PartsOf.{parts_of}
use Rattle.mss_census.specs.CensusView.{CensusView}
use Rattle.mss_pctl.specs.Peaks.{Place, ward_places}
use Rattle.mss_pctl.specs.CensusPeak.{beds_low, beds_high, IsCyclePeak}
use Rattle.mss_pctl.specs.CyclePeakLaws.{ward_counted, all_counted}
use Rattle.mss_report.specs.Evaluation.{ward_report}
use Rattle.mss_report.proofs.ReportHolds.{report-of, one-more}
use Rattle.mss_report.proofs.evaluation.report.Goals as goal

pub loop-ward-init : goal.loop-ward-init
loop-ward-init g c =
    let t : TableParts = parts_of c.args.tables.now in
    record {
      first = omega arith;
      last = omega arith;
      census = ap (λ (v : CensusView). v.lists) c.in_ok-make.ensures;
      moves = c.in_ok-make-2.ensures;
      wards = c.new-wards.ensures.items;
      peak = c.none-peak.ensures (beds_low t c.args.cycle.now) (beds_high t c.args.cycle.now);
    }

pub loop-ward-preserved : goal.loop-ward-preserved
loop-ward-preserved g c =
    let t : TableParts = parts_of c.args.tables.now in
    let so_far : List Place = flat_map (ward_places t) (range_with_len 1 (c.loop-ward.ward - 1)) in
    record {
      first = omega arith;
      last = omega (arith, c.wards-ward-end.ensures.value);
      census = c.in_ok-report.ensures.census ∙ c.loop-ward.invariant.census;
      moves = c.in_ok-report.ensures.moves ∙ c.loop-ward.invariant.moves;
      wards = one-more (ward_report t c.args.cycle.now) c.loop-ward.ward c.loop-ward.wards.items c.push.new.self.items c.in_ok-report.report
          c.loop-ward.invariant.first c.loop-ward.invariant.wards c.in_ok-report.ensures.value c.in_ok-push.ensures.items;
      peak = ward_counted t c.args.cycle.now c.loop-ward.ward c.ward_report.new.peak c.loop-ward.invariant.first
          (c.in_ok-report.ensures.peak so_far c.loop-ward.invariant.peak);
    }

pub counts_of-requires : goal.counts_of-requires
counts_of-requires g c =
    let good = c.args.tables.now.good in
    let few : slot_count (parts_of c.args.tables.now) ≤ 28 * 16 = mul-le-mul good.slots.days.1 good.slots.rooms.count.1 in
    omega (arith, few, c.requires.slots)

pub returns : goal.returns
returns g c =
    let t : TableParts = parts_of c.args.tables.now in
    let all : c.loop-ward.ward - 1 ≡ ward_count t = omega (arith, c.wards-ward-end.ensures.value) in
    let few : length c.args.cycle.now ≤ slot_count t = omega (arith, c.requires.slots) in
    let found : IsCyclePeak t c.args.cycle.now c.loop-ward.peak
    = all_counted t c.args.cycle.now (c.loop-ward.ward - 1) c.loop-ward.peak all c.loop-ward.invariant.peak in
    report-of t c.args.cycle.now c.loop-ward.peak c.counts_of.result c.level.result c.loop-ward.wards.items c.args.tables.now.good few found
    c.counts_of.ensures c.level.ensures.value (c.loop-ward.invariant.wards ∙ ap (λ z. map (ward_report t c.args.cycle.now) (range_with_len 1 z)) all)
