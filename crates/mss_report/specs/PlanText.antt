-- The text of a plan: four lines on its numbers, and then the report of the best cycle.
use Rattle.std.specs.Prelude.{◌≡◌, ℕ, Bool, true, false, Option, None, Some, List, ◌++◌, codes}
use Rattle.mss_model.specs.declared.parts.TableParts.{TableParts}
use Rattle.mss_pctl.specs.Printed.{named_text}
use Rattle.mss_report.specs.declared.plan.PlanSummary.{PlanSummary}
use Rattle.mss_report.specs.Report.{ReportView}
use Rattle.mss_report.specs.ReportText.{report_text}
use Rattle.mss_report.specs.Evaluation.{Prints}

-- how the search ended, by whether a prefix was open when the budget was spent and by the upper number
abbrev pub ending_text : Bool → Option ℕ → List ℕ
ending_text true upper = codes "plan spent\n"
ending_text false None = codes "plan none\n"
ending_text false (Some number) = codes "plan done\n"

-- a line on a number that may not be there
abbrev pub number_line : List ℕ → Option ℕ → List ℕ
number_line words None = words ++ codes "none\n"
number_line words (Some number) = named_text words number ++ codes "\n"

-- the four lines of a plan
unfoldable pub plan_summary_text : PlanSummary → List ℕ
plan_summary_text s =
    ending_text s.spent s.upper ++ number_line (codes "upper ") s.upper ++ number_line (codes "lower ") s.lower
    ++ named_text (codes "turns ") s.turns ++ codes "\n"

-- the four lines, and then a report
unfoldable pub plan_text_of : PlanSummary → ReportView → List ℕ
plan_text_of s r = plan_summary_text s ++ report_text r

-- The text has the four lines, and behind them the report of the best cycle, where there is one.
abbrev pub PrintsPlan : TableParts → PlanSummary → Option (List ℕ) → List ℕ → Type 0
PrintsPlan tables s None text = text ≡ plan_summary_text s
PrintsPlan tables s (Some options) text = Prints (plan_text_of s) tables options text
