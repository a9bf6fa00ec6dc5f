-- The peak of some places.
use Rattle.std.specs.Prelude.{◌≡◌, ℕ, List, map}
use Rattle.mss_pctl.specs.declared.first_largest.FirstLargest.{FirstLargest}
use Rattle.mss_pctl.specs.declared.peak.Peak.{Peak}
use Rattle.mss_pctl.specs.FirstLargest.{IsFirstLargest}
use Rattle.mss_pctl.specs.Peaks.{Place, largest}

-- the high number of a peak, with its place
abbrev pub highest : Peak → FirstLargest
highest p = record { number = p.high; ward = p.ward; day = p.day }

-- The peak's numbers are the largest low and the largest high number at these places, and its place is the first of the
-- largest high number.
pub record IsPeak (lows highs : Place → ℕ) (places : List Place) (p : Peak) : Type 0 where
  pub low : p.low ≡ largest (map lows places)
  pub high : IsFirstLargest highs places (highest p)
