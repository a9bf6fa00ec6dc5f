-- The text of a search: the lines on its numbers, and then the report of the improved cycle.
use Rattle.std.specs.Prelude.{ℕ, List, ◌++◌, codes}
use Rattle.mss_pctl.specs.Printed.{named_text}
use Rattle.mss_report.specs.Report.{ReportView}
use Rattle.mss_report.specs.ReportText.{report_text}
use Rattle.mss_timetable.specs.declared.summary.Summary.{Summary}

unfoldable pub tries_line : Summary → List ℕ
tries_line s = named_text (codes "tries ") s.tries ++ named_text (codes " accepted ") s.accepted ++ codes "\n"

unfoldable pub start_line : Summary → List ℕ
start_line s = named_text (codes "start peak ") s.start_low ++ named_text (codes " ") s.start_high ++ codes "\n"

unfoldable pub upper_line : Summary → List ℕ
upper_line s = named_text (codes "upper ") s.upper ++ codes "\n"

unfoldable pub lower_line : Summary → List ℕ
lower_line s = named_text (codes "lower ") s.lower ++ codes "\n"

unfoldable pub summary_text : Summary → List ℕ
summary_text s = codes "mss improve 1\n" ++ tries_line s ++ start_line s ++ upper_line s ++ lower_line s

-- the lines, and then a report
unfoldable pub improved_text_of : Summary → ReportView → List ℕ
improved_text_of s r = summary_text s ++ report_text r
