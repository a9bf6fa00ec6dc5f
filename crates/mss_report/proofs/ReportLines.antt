-- The text of a report, behind another text.
use Rattle.std.proofs.Common.{◌≡◌, ◌∙◌, ℕ, List, ◌++◌, ap, append_assoc}
use Rattle.std.specs.Prelude.{codes, flat_map}
use Rattle.mss_report.specs.Report.{ReportView}
use Rattle.mss_report.specs.ReportText.{counts_text, peak_text, ward_text, report_text}

behind : (old head counts peak wards : List ℕ) → (((old ++ head) ++ counts) ++ peak) ++ wards ≡ old ++ (((head ++ counts) ++ peak) ++ wards)
behind old head counts peak wards =
    ap (λ t. (t ++ peak) ++ wards) (append_assoc old head counts) ∙ ap (λ t. t ++ wards) (append_assoc old (head ++ counts) peak)
    ∙ append_assoc old ((head ++ counts) ++ peak) wards

pub appended : (r : ReportView) (old a b c d : List ℕ) → a ≡ old ++ codes "mss evaluate 1\n" → b ≡ a ++ counts_text r.counts
    → c ≡ b ++ peak_text r.level r.peak → d ≡ c ++ flat_map ward_text r.wards → d ≡ old ++ report_text r
unfolding report_text
appended r old a b c d head counts peak wards =
    let lines : List ℕ = flat_map ward_text r.wards in
    wards ∙ ap (λ t. t ++ lines) peak ∙ ap (λ t. (t ++ peak_text r.level r.peak) ++ lines) counts
    ∙ ap (λ t. ((t ++ counts_text r.counts) ++ peak_text r.level r.peak) ++ lines) head
    ∙ behind old (codes "mss evaluate 1\n") (counts_text r.counts) (peak_text r.level r.peak) lines
