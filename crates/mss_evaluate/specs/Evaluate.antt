-- What the commands `evaluate` and `evaluate json` come to, and what they promise.
use Rattle.std.specs.Prelude.{◌≡◌, ℕ, Bool, true, false, List, []}
use Rattle.mss_model.specs.declared.parts.TableParts.{TableParts}
use Rattle.mss_desk.specs.Desk.{Files}
use Rattle.mss_report.specs.Evaluation.{Prints}
use Rattle.mss_report.specs.Report.{ReportHolds, ReportView}
use Rattle.mss_report.specs.ReportJson.{report_json}
use Rattle.mss_report.specs.ReportText.{report_text}
use Rattle.mss_command.specs.declared.status.Status.{Status}
use Rattle.mss_command.specs.declared.status.Status.TheVariants as statuses
use Rattle.mss_command.specs.Cycles.{AsksCycle, IsStoredCycle}
use Rattle.mss_command.specs.Fetched.{Fetched}
use Rattle.mss_command.specs.Outcome.{Outcome}
use Rattle.mss_command.specs.Tables.{StoresTables}
use Rattle.mss_evaluate.specs.declared.evaluation.Form.{Form}
use Rattle.mss_evaluate.specs.declared.evaluation.Form.TheVariants as forms

-- the text of a report in this form
abbrev pub text_in : Form → ReportView → List ℕ
text_in forms.Plain report = report_text report
text_in forms.Json report = report_json report

-- the text of the evaluation of the cycle is said
pub record EvaluatesCycle (form : ReportView → List ℕ) (tables : TableParts) (cycle : List ℕ) (o : Outcome) : Type 0 where
  pub prints : Prints form tables cycle o.text
  pub status : o.status ≡ statuses.Done
  pub puts : o.puts ≡ []

-- what is said under these tables where cycle.csv was read like this
abbrev pub CycleDefines : (ReportView → List ℕ) → TableParts → Fetched → Outcome → Type 0
CycleDefines form tables file o = AsksCycle (EvaluatesCycle form tables) tables file o

abbrev pub evaluation_may_answer : Status → Bool
evaluation_may_answer statuses.Done = true
evaluation_may_answer statuses.Cycle = true
evaluation_may_answer _ = false

-- The text is that of a report in this form, and the report holds of the tables that the ten files mean and of the legal
-- cycle that cycle.csv means under them: counts and names are theirs, wards and days are all there in their order, pairs of
-- numbers enclose the exact peak or percentile, and decimals enclose the exact mean, or the exact chance of a count of
-- patients on a ward and day, and are at most 0.000017 or 10^-9 apart.
pub record PrintedEvaluation (form : ReportView → List ℕ) (files : Files) (text : List ℕ) : Type 0 where
  pub tables : TableParts
  pub stored : StoresTables files tables
  pub cycle : List ℕ
  pub cycle_stored : IsStoredCycle files tables cycle
  pub report : ReportView
  pub exact : text ≡ form report
  pub hold : ReportHolds tables cycle report
