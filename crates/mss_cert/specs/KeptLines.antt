-- How the lines of a tree are kept.
use Rattle.std.specs.Prelude.{◌≡◌, ℕ, ◌<◌, ◌≤◌, List, length, get_or}
use Rattle.std.specs.List.{AllByRecursion}
use Rattle.mss_cert.specs.declared.certificate.Line.{Line}
use Rattle.mss_cert.specs.declared.certificate.Line.TheVariants as line
use Rattle.mss_cert.specs.declared.lines.Kept.{Kept}
use Rattle.mss_cert.specs.declared.lines.Kept.TheVariants as kept
use Rattle.mss_cert.specs.declared.lines.Judged.{Judged}
use Rattle.mss_cert.specs.declared.lines.Left.{Left}
use Rattle.mss_cert.specs.declared.lines.Numbers.{Numbers}
use Rattle.mss_model.specs.declared.growing.TheConstants.{MOST_MEMBERS}

-- the numbers of a full or closed line, and of an open one, at a place
abbrev pub judged_at : Numbers → ℕ → Judged
judged_at numbers place = get_or numbers.judged.items place (record { turn = 0; number = 0; ward = 0; day = 0 })

abbrev pub left_at : Numbers → ℕ → Left
left_at numbers place = get_or numbers.left.items place (record { number = 0; ward = 0; day = 0 })

-- the line that is kept so
abbrev pub line_of : Numbers → Kept → Line
line_of numbers (kept.Branch turn) = line.Branch turn
line_of numbers (kept.Dead rule) = line.Dead rule
line_of numbers (kept.Full place) = let j = judged_at numbers place in line.Full j.turn j.number j.ward j.day
line_of numbers (kept.Closed place) = let j = judged_at numbers place in line.Closed j.turn j.number j.ward j.day
line_of numbers (kept.OpenAt place) = let l = left_at numbers place in line.OpenAt l.number l.ward l.day

-- its numbers are there
abbrev pub IsKept : Numbers → Kept → Type 0
IsKept numbers (kept.Branch turn) = Unit {0}
IsKept numbers (kept.Dead rule) = Unit {0}
IsKept numbers (kept.Full place) = place < length numbers.judged.items
IsKept numbers (kept.Closed place) = place < length numbers.judged.items
IsKept numbers (kept.OpenAt place) = place < length numbers.left.items

-- what was kept is there, and stands for the same lines
abbrev pub Keeps : Numbers → Numbers → Type 0
Keeps old new = (kept : Kept) → IsKept old kept → IsKept new kept × (line_of new kept ≡ line_of old kept)

-- the lines are so many that a number of 32 bits counts them, and the numbers of each are there
pub record AreKept (numbers : Numbers) (lines : List Kept) : Type 0 where
  pub few : length lines ≤ MOST_MEMBERS
  pub each : AllByRecursion (IsKept numbers) lines
