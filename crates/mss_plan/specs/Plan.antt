-- What the commands `plan` and `plan alike` come to, and what they promise. A rule that makes a prefix dead tells them apart;
-- what is promised of peaks speaks of every legal cycle.
use Rattle.std.specs.Prelude.{◌≡◌, ◌⊎◌, ◌↔◌, ℕ, ◌+◌, ◌^◌, ◌≤◌, Bool, true, false, IsTrue, List, [], ◌∷◌, ◌++◌, length, Option, Some, None, codes}
use Rattle.mss_model.specs.Legality.{IsLegal}
use Rattle.mss_model.specs.Peak.{peak_above}
use Rattle.mss_model.specs.declared.parts.TableParts.{TableParts}
use Rattle.mss_enclose.specs.Kept.{lean_convolution, lean_low}
use Rattle.mss_floor.specs.FlooredLists.{floored_census}
use Rattle.mss_desk.specs.Desk.{Files, Content}
use Rattle.mss_cert.specs.CertificateText.{IsShort, certificate_text}
use Rattle.mss_cert.specs.declared.certificate.Certificate.{Certificate}
use Rattle.mss_cert.specs.declared.certificate.End.{End}
use Rattle.mss_cert.specs.declared.certificate.End.TheVariants.{Lower, NoneLegal}
use Rattle.mss_cert.specs.declared.certificate.TheConstants.{MOST_CERTIFICATE_BYTES}
use Rattle.mss_check.specs.Validity.{IsValid, lean_task, peak_at_level}
use Rattle.mss_bounds.specs.PrefixBound.{bound_of}
use Rattle.mss_search.specs.Plan.{IsFrugal}
use Rattle.mss_search.specs.Promises.{HasOpen, IsIncumbent, board_of}
use Rattle.mss_search.specs.Searching.{upper_of}
use Rattle.mss_search.specs.Standing.{HasNoFull}
use Rattle.mss_search.specs.declared.planner.Planned.{Planned}
use Rattle.mss_report.specs.PlanText.{PrintsPlan, plan_summary_text}
use Rattle.mss_report.specs.Report.{ReportHolds, ReportView}
use Rattle.mss_report.specs.ReportText.{report_text}
use Rattle.mss_report.specs.declared.plan.PlanSummary.{PlanSummary}
use Rattle.mss_command.specs.declared.status.Status.{Status}
use Rattle.mss_command.specs.declared.status.Status.TheVariants as statuses
use Rattle.mss_command.specs.Cycles.{IsTextOf}
use Rattle.mss_command.specs.Fetched.{Fetched}
use Rattle.mss_command.specs.Lower.{EachPeaksAt}
use Rattle.mss_command.specs.Outcome.{Outcome, put_all}
use Rattle.mss_command.specs.Tables.{StoresTables}

abbrev pub planned_file : List ℕ
planned_file = codes "planned.csv"

abbrev pub certificate_file : List ℕ
certificate_file = codes "certificate.txt"

-- the most bytes of a certificate.txt that the checker reads
abbrev pub certificate_limit : ℕ
certificate_limit = MOST_CERTIFICATE_BYTES

-- ---- what the numbers of a plan say

-- each legal cycle peaks at least at the number; where there is none, no cycle is legal
abbrev pub IsBelowAll : TableParts → Option ℕ → Type 0
IsBelowAll tables (Some n) = EachPeaksAt tables n
IsBelowAll tables None = (cycle : List ℕ) → IsLegal tables cycle → ⊥

-- each legal cycle peaks at least at the number at a level 2^-30 higher; where there is none, no cycle is legal
abbrev pub IsLeastOfAll : TableParts → Option ℕ → Type 0
IsLeastOfAll tables (Some n) = (cycle : List ℕ) → IsLegal tables cycle → n ≤ peak_above tables cycle tables.level
IsLeastOfAll tables None = (cycle : List ℕ) → IsLegal tables cycle → ⊥

-- the lower number of an end, where there is one
abbrev pub lower_of : End → Option ℕ
lower_of (Lower n) = Some n
lower_of NoneLegal = None

-- ---- the plan of tables

-- The certificate is of version 2. Its tree is that of the search best first with the tables' budget, and valid; the cycle is
-- the best of its full lines, and the search is spent where a line is open.
pub record IsSearch (rule : TableParts → List ℕ → Option ℕ) (tables : TableParts) (p : Planned) : Type 0 where
  pub version : p.certificate.version ≡ 2
  pub valid : IsValid rule tables p.certificate
  pub frugal : IsFrugal (lean_task 2 rule tables) (bound_of (floored_census lean_convolution) lean_low tables) (upper_of tables) tables.budget p.certificate.tree p.turns
  pub best : IsIncumbent (lean_task 2 rule tables) (upper_of tables) p.certificate.tree p.best p.upper
  pub spent : IsTrue p.spent ↔ HasOpen (lean_task 2 rule tables) p.certificate.tree

-- A plan of these tables: what a search comes to, and what it proves of the legal cycles.
pub record IsPlan (rule : TableParts → List ℕ → Option ℕ) (tables : TableParts) (p : Planned) : Type 0 where
  pub search : IsSearch rule tables p
  pub short : IsShort p.certificate
  pub within : length (certificate_text p.certificate) ≤ certificate_limit
  pub legal : (cycle : List ℕ) → p.best ≡ Some cycle → IsLegal tables cycle
  pub peaks : (cycle : List ℕ) (n : ℕ) → p.best ≡ Some cycle → p.upper ≡ Some n → peak_at_level tables cycle ≤ n
  pub lower : IsBelowAll tables (lower_of p.certificate.end)
  pub closes : p.spent ≡ false → IsLeastOfAll tables p.upper

-- the numbers of a plan
abbrev pub summary_of : Planned → PlanSummary
summary_of p = record { upper = p.upper; lower = lower_of p.certificate.end; turns = p.turns; spent = p.spent }

-- ---- the files of a plan

-- the bytes of planned.csv: none where there is no cycle
abbrev pub IsCycleFile : TableParts → Option (List ℕ) → List ℕ → Type 0
IsCycleFile tables None bytes = bytes ≡ []
IsCycleFile tables (Some cycle) bytes = IsTextOf tables cycle bytes

-- the two files in the order in which they are put
abbrev pub files_of : List ℕ → Certificate → List (List ℕ × List ℕ)
files_of planned certificate = (planned_file, planned) ∷ (certificate_file, certificate_text certificate) ∷ []

-- the files of a plan are put
pub record PutsPlan (tables : TableParts) (p : Planned) (puts : List (List ℕ × List ℕ)) : Type 0 where
  pub planned : List ℕ
  pub file : IsCycleFile tables p.best planned
  pub exact : puts ≡ files_of planned p.certificate

-- ---- what the command comes to

-- by whether a prefix was open when the budget was spent, and by the upper number
abbrev pub plan_status : Bool → Option ℕ → Status
plan_status false (Some n) = statuses.Done
plan_status false None = statuses.NoCycle
plan_status true (Some n) = statuses.SpentWithCycle
plan_status true None = statuses.SpentWithout

abbrev pub plan_may_answer : Status → Bool
plan_may_answer statuses.Done = true
plan_may_answer statuses.NoCycle = true
plan_may_answer statuses.SpentWithCycle = true
plan_may_answer statuses.SpentWithout = true
plan_may_answer _ = false

-- A plan of the tables is put and said: the cycle and the certificate, and then the numbers with the report of the cycle.
pub record PlansTables (rule : TableParts → List ℕ → Option ℕ) (tables : TableParts) (o : Outcome) : Type 0 where
  pub plan : Planned
  pub is : IsPlan rule tables plan
  pub puts : PutsPlan tables plan o.puts
  pub prints : PrintsPlan tables (summary_of plan) plan.best o.text
  pub status : o.status ≡ plan_status plan.spent plan.upper

-- no file is read beside the tables
abbrev pub PlanDefines : (TableParts → List ℕ → Option ℕ) → TableParts → Fetched → Outcome → Type 0
PlanDefines rule tables file o = PlansTables rule tables o

-- ---- what it promises

-- A cycle is printed: it is legal and peaks at most at the upper number, planned.csv is its text and is read back as it,
-- and behind the four lines comes a report that holds of it.
pub record PrintsCycle (tables : TableParts) (s : PlanSummary) (planned text : List ℕ) : Type 0 where
  pub cycle : List ℕ
  pub upper : ℕ
  pub printed : s.upper ≡ Some upper
  pub legal : IsLegal tables cycle
  pub peaks : peak_at_level tables cycle ≤ upper
  pub file : IsTextOf tables cycle planned
  pub report : ReportView
  pub exact : text ≡ plan_summary_text s ++ report_text report
  pub hold : ReportHolds tables cycle report

-- No cycle is printed: there is no upper number, planned.csv has no bytes, and the four lines are all.
pub record PrintsNoCycle (s : PlanSummary) (planned text : List ℕ) : Type 0 where
  pub none : s.upper ≡ None
  pub file : planned ≡ []
  pub exact : text ≡ plan_summary_text s

-- The files are as before but for planned.csv and certificate.txt, and the text is that of a plan of the tables that the
-- ten files mean. The printed cycle is legal and peaks at most at the upper number, and its report holds. Each legal cycle
-- peaks at least at the lower number, and where the search closed, at least at the upper number at a level 2^-30 higher;
-- without a number no cycle is legal. The certificate is of version 2, and one that the checker reads and accepts with the
-- lower number. The search is spent where its tree has an open line, and found no cycle where it has no full line.
pub record PrintedPlan (rule : TableParts → List ℕ → Option ℕ) (before after : Files) (status : Status) (text : List ℕ) : Type 0 where
  pub tables : TableParts
  pub stored : StoresTables before tables
  pub summary : PlanSummary
  pub planned : List ℕ
  pub certificate : Certificate
  pub files : after ≡ put_all (files_of planned certificate) before
  pub cycle : PrintsCycle tables summary planned text ⊎ PrintsNoCycle summary planned text
  pub lower : IsBelowAll tables summary.lower
  pub closed : summary.spent ≡ false → IsLeastOfAll tables summary.upper
  pub short : IsShort certificate
  pub within : length (certificate_text certificate) ≤ certificate_limit
  pub version : certificate.version ≡ 2
  pub valid : IsValid rule tables certificate
  pub proves : lower_of certificate.end ≡ summary.lower
  pub spent : IsTrue summary.spent ↔ HasOpen (lean_task 2 rule tables) certificate.tree
  pub without : (summary.upper ≡ None) ↔ HasNoFull (board_of (lean_task 2 rule tables) certificate.tree)
  pub ends : status ≡ plan_status summary.spent summary.upper

-- at the statuses of a plan a text with that meaning was said
abbrev pub PlanPromised : (TableParts → List ℕ → Option ℕ) → Status → Content → Content → Type 0
PlanPromised rule status c d = IsTrue (plan_may_answer status)
    → (text : List ℕ) × (d.said ≡ c.said ++ text) × PrintedPlan rule c.files d.files status text
