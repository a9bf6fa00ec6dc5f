-- The peak of a cycle: the most beds that are taken.
use Rattle.std.specs.Prelude.{ℕ, zero, suc, ◌+◌, ◌-◌, ◌*◌, ◌^◌, max, List, if◌then◌else◌}
use Rattle.mss_model.specs.declared.parts.TableParts.{TableParts}
use Rattle.mss_model.specs.TableWords.{ward_count, is_watched, allow_at}
use Rattle.mss_model.specs.Percentile.{percentile}
use Rattle.mss_model.specs.Census.{census}
use Rattle.mss_model.specs.declared.limits.TheConstants.{WHOLE_LEVEL}

-- the largest value of f at the numbers below n, or 0 where there are none
abbrev pub largest_below : ℕ → (ℕ → ℕ) → ℕ
largest_below zero f = 0
largest_below (suc n) f = max (largest_below n f) (f n)

-- the beds of a ward that are taken on a day: those that always are, and the percentile of the census at the level a / b
abbrev pub beds_taken : TableParts → List ℕ → ℕ → ℕ → ℕ → ℕ → ℕ
beds_taken tables options a b ward day = allow_at tables ward + percentile (census tables ward day options) a b

-- the most beds of a ward that are taken over all days
abbrev pub ward_peak : TableParts → List ℕ → ℕ → ℕ → ℕ → ℕ
ward_peak tables options a b ward = largest_below tables.days (λ d. beds_taken tables options a b ward (d + 1))

-- The most beds of a watched ward that are taken over all days, at the level a / b.
abbrev pub peak : TableParts → List ℕ → ℕ → ℕ → ℕ
peak tables options a b =
    largest_below (ward_count tables) (λ w. if is_watched tables (w + 1) then ward_peak tables options a b (w + 1) else 0)

-- the peak at so many millionths
abbrev pub peak_at : TableParts → List ℕ → ℕ → ℕ
peak_at tables options level = peak tables options level WHOLE_LEVEL

-- the peaks at a level that is 2^-30 lower, and 2^-30 higher
abbrev pub peak_below : TableParts → List ℕ → ℕ → ℕ
peak_below tables options level = peak tables options (level * 2 ^ 30 - WHOLE_LEVEL) (WHOLE_LEVEL * 2 ^ 30)

abbrev pub peak_above : TableParts → List ℕ → ℕ → ℕ
peak_above tables options level = peak tables options (level * 2 ^ 30 + WHOLE_LEVEL) (WHOLE_LEVEL * 2 ^ 30)
