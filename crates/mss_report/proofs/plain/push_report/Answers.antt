use Rattle.std.proofs.Common.{◌∙◌, ◌++◌, ap}
use Rattle.std.specs.Prelude.{flat_map}
use Rattle.mss_report.specs.ReportText.{ward_text, report_text}
use Rattle.mss_report.proofs.ReportLines.{appended}
use Rattle.mss_report.proofs.plain.push_report.Goals as goal

pub returns : goal.returns
returns c =
    let inside = c.report.inside in
    appended (record { counts = inside.counts; level = inside.level; peak = inside.peak; wards = inside.wards.items }) c.args.text.now _ _ _ _
    c.in_ok-push.ensures.ok c.in_ok-push_counts.ensures c.in_ok-push_peak.ensures
    (c.in_ok-push_wards.ensures ∙ ap (λ ws. c.push_peak.new.text ++ flat_map ward_text ws) c.deref.ensures.value)
    ∙ ap (λ r. c.args.text.now ++ report_text r) c.report.view_is
