-- What an evaluation tells: the counts, the peak, and the figures of each quantity, ward by ward and day by day.
--
-- Each text of an evaluation is a function of this report, so all texts have the same numbers.
use Rattle.std.specs.Prelude.{◌≡◌, ℕ, ◌+◌, ◌-◌, ◌≤◌, ◌==◌, not, count_by, List, map}
use Rattle.std.specs.List.{All, range_with_len}
use Rattle.mss_model.specs.declared.parts.TableParts.{TableParts}
use Rattle.mss_model.specs.TableWords.{room_count, specialty_count, ward_count, allow_at, name_at}
use Rattle.mss_model.specs.Percentile.{percentile_at, percentile_below, percentile_above}
use Rattle.mss_model.specs.Census.{census}
use Rattle.mss_model.specs.Movements.{admissions, discharges}
use Rattle.mss_pctl.specs.declared.figure.LevelPair.{LevelPair}
use Rattle.mss_pctl.specs.declared.figure.Point.{Point}
use Rattle.mss_pctl.specs.declared.peak.Peak.{Peak}
use Rattle.mss_pctl.specs.declared.figures.TheConstants.{FIRST_LEVEL, LAST_LEVEL}
use Rattle.mss_pctl.specs.Figures.{FiguresView, FiguresHold}
use Rattle.mss_pctl.specs.Peaks.{IsPeakPlace, PeakEncloses}
use Rattle.mss_report.specs.declared.report.Counts.{Counts}
use Rattle.mss_report.specs.declared.report.DayReport.{DayReport}

-- a ward with its number and its name, day by day
pub record WardView : Type 0 where
  pub number : ℕ
  pub name : List ℕ
  pub days : List DayReport

-- the counts, the peak at the level of the tables, and ward by ward
pub record ReportView : Type 0 where
  pub counts : Counts
  pub level : ℕ
  pub peak : Peak
  pub wards : List WardView

-- ---- what a report says of the tables and a cycle

-- the blocks of a cycle: the slots that aren't idle
abbrev pub block_count : List ℕ → ℕ
block_count options = count_by (λ option. not (option == 0)) options

-- The counts are those of the tables and the cycle.
pub record CountsHold (tables : TableParts) (options : List ℕ) (c : Counts) : Type 0 where
  pub days : c.days ≡ tables.days
  pub rooms : c.rooms ≡ room_count tables
  pub specialties : c.specialties ≡ specialty_count tables
  pub wards : c.wards ≡ ward_count tables
  pub blocks : c.blocks ≡ block_count options

-- The two numbers enclose the peak at the tables' level. The ward and day are a place of the peak: the ward's allowance and
-- the percentile of the census there, at a level 2^-30 higher, come to at least the high number.
pub record PeakHolds (tables : TableParts) (options : List ℕ) (level : ℕ) (p : Peak) : Type 0 where
  pub of_tables : level ≡ tables.level
  pub encloses : PeakEncloses tables options level p.low p.high
  pub place : IsPeakPlace tables (record { ward = p.ward; day = p.day })
  pub reached : p.high ≤ allow_at tables p.ward + percentile_above (census tables p.ward p.day options) level

-- The figures hold of the distribution e and leave nothing out: there is a pair for each of these levels, in their order,
-- and the points go one by one from a first number to a last one. The first lies between the percentile at 1,000
-- millionths and the one at a level 2^-30 lower, and the last between the one at 999,000 and that at a level 2^-30 higher.
pub record FiguresComplete (levels e : List ℕ) (f : FiguresView) : Type 0 where
  pub hold : FiguresHold e f
  pub at_levels : map (λ (p : LevelPair). p.level) f.pairs ≡ levels
  pub first : ℕ
  pub last : ℕ
  pub in_order : map (λ (p : Point). p.patients) f.points ≡ range_with_len first (last + 1 - first)
  pub begins : (percentile_below e FIRST_LEVEL ≤ first) × (first ≤ percentile_at e FIRST_LEVEL)
  pub ends : (percentile_at e LAST_LEVEL ≤ last) × (last ≤ percentile_above e LAST_LEVEL)

-- The figures of a day are those of the exact census, admissions and discharges of the ward on that day.
pub record DayHolds (tables : TableParts) (options : List ℕ) (ward : ℕ) (d : DayReport) : Type 0 where
  pub census : FiguresComplete tables.levels (census tables ward d.number options) d.census
  pub admissions : FiguresComplete tables.levels (admissions tables ward d.number options) d.admissions
  pub discharges : FiguresComplete tables.levels (discharges tables ward d.number options) d.discharges

-- The name is the ward's, and its days are all days of the cycle in order.
pub record WardHolds (tables : TableParts) (options : List ℕ) (w : WardView) : Type 0 where
  pub named : w.name ≡ name_at tables.wards w.number
  pub in_order : map (λ (d : DayReport). d.number) w.days ≡ range_with_len 1 tables.days
  pub days : All (DayHolds tables options w.number) w.days

-- All of a report holds, and its wards are all wards of the tables in order.
pub record ReportHolds (tables : TableParts) (options : List ℕ) (r : ReportView) : Type 0 where
  pub counts : CountsHold tables options r.counts
  pub peak : PeakHolds tables options r.level r.peak
  pub in_order : map (λ (w : WardView). w.number) r.wards ≡ range_with_len 1 (ward_count tables)
  pub wards : All (WardHolds tables options) r.wards
