-- What a local search gives is better than its start.
use Rattle.std.proofs.Common.{◌≤◌, ℕ, List}
use Rattle.mss_model.specs.declared.parts.TableParts.{TableParts}
use Rattle.mss_model.specs.Legality.{IsLegal}
use Rattle.mss_pctl.specs.Peaks.{PeakEncloses}
use Rattle.mss_local.specs.declared.improving.Effort.{Effort}
use Rattle.mss_local.specs.declared.improving.Improved.{Improved}
use Rattle.mss_timetable.specs.Improves.{IsBetter, summary_of}

pub better : (tables : TableParts) (start : List ℕ) (effort : Effort) (i : Improved) (lower : ℕ) → IsLegal tables i.cycle
    → PeakEncloses tables i.cycle tables.level i.peak.low i.peak.high → PeakEncloses tables start tables.level i.start.low i.start.high
    → i.peak.high ≤ i.start.high → i.accepted ≤ effort.tries → IsBetter tables start i.cycle (summary_of effort i lower)
better tables start effort i lower legal peaks from no_worse accepted =
    record { legal = legal; upper = peaks.at_least; no_worse = no_worse; start_peak = from; accepted = accepted }
