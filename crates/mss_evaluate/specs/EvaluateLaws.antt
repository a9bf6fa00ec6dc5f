-- What `evaluate` and `evaluate json` come to keeps their promise.
use Rattle.std.proofs.Common.{◌≡◌, ℕ, List, [], Some}
use Rattle.mss_model.specs.declared.parts.TableParts.{TableParts}
use Rattle.mss_desk.specs.Desk.{Files, Content}
use Rattle.mss_report.specs.Report.{ReportView}
use Rattle.mss_command.specs.Cycles.{IsStoredCycle, cycle_file}
use Rattle.mss_command.specs.CycleLaws.{cycle_answered}
use Rattle.mss_command.specs.Fetched.{file_limit}
use Rattle.mss_command.specs.Outcome.{Did, Outcome}
use Rattle.mss_command.specs.Promised.{SaysOnly}
use Rattle.mss_command.specs.PromisedLaws.{says_only}
use Rattle.mss_command.specs.Questions.{Asks}
use Rattle.mss_command.specs.QuestionLaws.{answered}
use Rattle.mss_command.specs.Tables.{StoresTables}
use Rattle.mss_evaluate.specs.Evaluate.{CycleDefines, EvaluatesCycle, PrintedEvaluation}

module _ (form : ReportView → List ℕ) (files : Files) (o : Outcome) where
  printed : (tables : TableParts) → StoresTables files tables → (cycle : List ℕ) → IsStoredCycle files tables cycle → EvaluatesCycle form tables cycle o
      → PrintedEvaluation form files o.text × (o.puts ≡ [])
  printed tables stored cycle given evaluates = (
    record {
      tables = tables;
      stored = stored;
      cycle = cycle;
      cycle_stored = given;
      report = evaluates.prints.report;
      exact = evaluates.prints.exact;
      hold = evaluates.prints.of_tables.hold;
    },
    evaluates.puts,
  )

pub evaluation_keeps : (form : ReportView → List ℕ) (o : Outcome) (c d : Content) → Asks (CycleDefines form) (Some cycle_file) file_limit c.files o → Did o c d
    → SaysOnly (PrintedEvaluation form) o.status c d
evaluation_keeps form o c d known did = says_only (PrintedEvaluation form) o c d did (λ done.
    answered (CycleDefines form) c.files o (PrintedEvaluation form c.files o.text × (o.puts ≡ [])) (Some cycle_file) file_limit known done (λ tables stored answer.
    cycle_answered (EvaluatesCycle form tables) c.files tables o (PrintedEvaluation form c.files o.text × (o.puts ≡ [])) answer done (printed form c.files o tables stored)))
