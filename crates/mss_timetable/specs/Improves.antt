-- What the commands of `mss_improve` come to, and what they promise.
use Rattle.std.specs.Prelude.{◌≡◌, ◌⊎◌, ℕ, ◌≤◌, Bool, true, false, List, [], ◌∷◌, ◌++◌, codes}
use Rattle.mss_model.specs.Legality.{IsLegal}
use Rattle.mss_model.specs.Peak.{peak, peak_at}
use Rattle.mss_model.specs.declared.parts.TableParts.{TableParts}
use Rattle.mss_pctl.specs.Peaks.{PeakEncloses}
use Rattle.mss_desk.specs.Desk.{Files, Content}
use Rattle.mss_report.specs.Evaluation.{Prints}
use Rattle.mss_report.specs.Report.{ReportHolds, ReportView}
use Rattle.mss_command.specs.declared.status.Status.{Status}
use Rattle.mss_command.specs.declared.status.Status.TheVariants as statuses
use Rattle.mss_command.specs.Cycles.{AsksCycle, IsStoredCycle, IsTextOf}
use Rattle.mss_command.specs.Fetched.{Fetched}
use Rattle.mss_command.specs.Lower.{EachPeaksAt}
use Rattle.mss_command.specs.Outcome.{Outcome, put_all, saying}
use Rattle.mss_command.specs.Tables.{StoresTables}
use Rattle.mss_local.specs.declared.improving.Effort.{Effort}
use Rattle.mss_local.specs.declared.improving.Improved.{Improved}
use Rattle.mss_timetable.specs.Lower.{IsShownBy, weights_file}
use Rattle.mss_timetable.specs.Summary.{improved_text_of}
use Rattle.mss_timetable.specs.declared.summary.Summary.{Summary}

abbrev pub improved_file : List ℕ
improved_file = codes "improved.csv"

-- the text where no first cycle was found, which is no proof that there is none
abbrev pub no_first_text : List ℕ
no_first_text = codes "no first cycle found in 1000 dives\n"

-- ---- an improved cycle

-- The cycle is legal and peaks at most at the upper number, which is at most the high number of the start; the numbers of
-- the start enclose its peak.
pub record IsBetter (tables : TableParts) (start cycle : List ℕ) (s : Summary) : Type 0 where
  pub legal : IsLegal tables cycle
  pub upper : peak_at tables cycle tables.level ≤ s.upper
  pub no_worse : s.upper ≤ s.start_high
  pub start_peak : PeakEncloses tables start tables.level s.start_low s.start_high
  pub accepted : s.accepted ≤ s.tries

-- the numbers of a search, with the lower number of all legal cycles
abbrev pub summary_of : Effort → Improved → ℕ → Summary
summary_of effort i lower = record {
  tries = effort.tries;
  accepted = i.accepted;
  start_low = i.start.low;
  start_high = i.start.high;
  upper = i.peak.high;
  lower = lower;
}

-- the files of a search in the order in which they are put
abbrev pub files_of : List ℕ → List ℕ → List (List ℕ × List ℕ)
files_of improved weights = (improved_file, improved) ∷ (weights_file, weights) ∷ []

-- the text of the cycle is put, and then what shows the lower number
pub record PutsImproved (tables : TableParts) (cycle : List ℕ) (lower : ℕ) (puts : List (List ℕ × List ℕ)) : Type 0 where
  pub improved : List ℕ
  pub file : IsTextOf tables cycle improved
  pub weights : List ℕ
  pub shown : IsShownBy tables lower weights
  pub exact : puts ≡ files_of improved weights

-- ---- what the commands come to

-- A better cycle than the start is put and said: its text with what shows the lower number, and then the numbers with its
-- report. Each legal cycle peaks at least at the lower number.
pub record ImprovesCycle (tables : TableParts) (tries : ℕ) (start : List ℕ) (o : Outcome) : Type 0 where
  pub cycle : List ℕ
  pub summary : Summary
  pub better : IsBetter tables start cycle summary
  pub tried : summary.tries ≡ tries
  pub lower : EachPeaksAt tables summary.lower
  pub puts : PutsImproved tables cycle summary.lower o.puts
  pub prints : Prints (improved_text_of summary) tables cycle o.text
  pub status : o.status ≡ statuses.Done

-- what is said under these tables where cycle.csv was read like this
abbrev pub TodayDefines : ℕ → TableParts → Fetched → Outcome → Type 0
TodayDefines tries tables file o = AsksCycle (ImprovesCycle tables tries) tables file o

-- a legal cycle was found, and a better one from it
pub record ImprovesFirst (tables : TableParts) (tries : ℕ) (o : Outcome) : Type 0 where
  pub first : List ℕ
  pub legal : IsLegal tables first
  pub improves : ImprovesCycle tables tries first o

-- `new` reads no file beside the tables
abbrev pub NewDefines : ℕ → TableParts → Fetched → Outcome → Type 0
NewDefines tries tables file o = ImprovesFirst tables tries o ⊎ (o ≡ saying statuses.SpentWithout no_first_text)

abbrev pub today_may_answer : Status → Bool
today_may_answer statuses.Done = true
today_may_answer statuses.Cycle = true
today_may_answer _ = false

abbrev pub new_may_answer : Status → Bool
new_may_answer statuses.Done = true
new_may_answer statuses.SpentWithout = true
new_may_answer _ = false

-- ---- what they promise

-- The files are as before but for improved.csv and weights.txt. improved.csv is the text of a legal cycle and is read back
-- as it. That cycle peaks at most at the upper number, which is at most the high number of the start; the numbers of the
-- start enclose its peak. Each legal cycle peaks at least at the lower number. weights.txt has no bytes where that is 0, and
-- else is a text that shows it. Behind the lines on the numbers comes a report that holds of the cycle: each line of it
-- encloses.
pub record PrintedImprovement (tables : TableParts) (tries : ℕ) (start : List ℕ) (before after : Files) (text : List ℕ) : Type 0 where
  pub cycle : List ℕ
  pub summary : Summary
  pub better : IsBetter tables start cycle summary
  pub tried : summary.tries ≡ tries
  pub lower : EachPeaksAt tables summary.lower
  pub improved : List ℕ
  pub file : IsTextOf tables cycle improved
  pub weights : List ℕ
  pub shown : IsShownBy tables summary.lower weights
  pub files : after ≡ put_all (files_of improved weights) before
  pub report : ReportView
  pub exact : text ≡ improved_text_of summary report
  pub hold : ReportHolds tables cycle report

-- the start is the legal cycle that cycle.csv means under the tables that the ten files mean
pub record ImprovedToday (tries : ℕ) (before after : Files) (text : List ℕ) : Type 0 where
  pub tables : TableParts
  pub stored : StoresTables before tables
  pub start : List ℕ
  pub today : IsStoredCycle before tables start
  pub printed : PrintedImprovement tables tries start before after text

-- the start is a legal cycle under the tables that the ten files mean
pub record ImprovedNew (tries : ℕ) (before after : Files) (text : List ℕ) : Type 0 where
  pub tables : TableParts
  pub stored : StoresTables before tables
  pub start : List ℕ
  pub legal : IsLegal tables start
  pub printed : PrintedImprovement tables tries start before after text

-- at status 0 a text with that meaning was said
abbrev pub TodayPromised : ℕ → Status → Content → Content → Type 0
TodayPromised tries status c d = status ≡ statuses.Done
    → (text : List ℕ) × (d.said ≡ c.said ++ text) × ImprovedToday tries c.files d.files text

-- at status 0 a text with that meaning was said, and at status 7 that no first cycle was found, with all files as before
abbrev pub NewPromised : ℕ → Status → Content → Content → Type 0
NewPromised tries status c d =
    (status ≡ statuses.Done → (text : List ℕ) × (d.said ≡ c.said ++ text) × ImprovedNew tries c.files d.files text)
    × (status ≡ statuses.SpentWithout → (d.said ≡ c.said ++ no_first_text) × (d.files ≡ c.files))
