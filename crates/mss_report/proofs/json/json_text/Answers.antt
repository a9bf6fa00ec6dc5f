use Rattle.mss_report.proofs.WholeNumbers.{whole_numbers}
use Rattle.mss_report.proofs.json.json_text.Goals as goal

pub line_of-requires : goal.line_of-requires
line_of-requires c = rw c.in_ok-value.ensures (whole_numbers c.args.report.now)
