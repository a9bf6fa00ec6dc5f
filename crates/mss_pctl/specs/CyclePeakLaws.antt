-- The peak of a cycle: gathered day by day and ward by ward, and what it encloses.
use Rattle.std.proofs.Common.{◌≡◌, ◌+◌, ◌-◌, ◌≤◌, ℕ, List, ◌++◌, length, append_assoc, ap, subst, sym, ◌∙◌, arith}
use Rattle.std.specs.Prelude.{flat_map}
use Rattle.std.specs.List.{range_with_len}
use Rattle.mss_model.specs.declared.parts.TableParts.{TableParts}
use Rattle.mss_model.specs.Limits.{IsTables}
use Rattle.mss_model.specs.TableWords.{allow_at, slot_count, ward_count}
use Rattle.mss_enclose.specs.Kept.{masses_low, masses_high}
use Rattle.mss_pctl.specs.declared.peak.Peak.{Peak}
use Rattle.mss_pctl.specs.Peaks.{Place, day_places, ward_places, PeakEncloses}
use Rattle.mss_pctl.specs.PlacesPeak.{IsPeak}
use Rattle.mss_pctl.specs.CensusPeak.{kept_census, beds_low, beds_high, IsCyclePeak, IsPeakOver}
use Rattle.mss_pctl.specs.PeakPlacesLaws.{next_group}
use Rattle.mss_pctl.specs.PeakSidesLaws.{peak_encloses}
use Rattle.mss_pctl.specs.CensusStandsLaws.{census_stands}

-- one more day of a ward is counted
pub day_counted : (t : TableParts) (options list : List ℕ) (ward day : ℕ) (before after : Peak) (places : List Place) → 1 ≤ day → list ≡ kept_census t options ward day
    → ((lows highs : Place → ℕ) (ps : List Place) → allow_at t ward + masses_low list t.level ≡ lows (record { ward = ward; day = day })
    → allow_at t ward + masses_high list t.level ≡ highs (record { ward = ward; day = day })
    → IsPeak lows highs ps before → IsPeak lows highs (ps ++ day_places t ward day) after)
    → IsPeakOver t options (places ++ flat_map (day_places t ward) (range_with_len 1 (day - 1))) before
    → IsPeakOver t options (places ++ flat_map (day_places t ward) (range_with_len 1 (day + 1 - 1))) after
day_counted t options list ward day before after places first e counts so_far =
    let days : List Place = flat_map (day_places t ward) (range_with_len 1 (day - 1)) in
    subst (λ z. IsPeakOver t options z after)
    (append_assoc places (flat_map (day_places t ward) (range_with_len 1 (day - 1))) (day_places t ward day)
    ∙ ap (λ z. places ++ z) (sym (next_group (day_places t ward) day first)))
    (counts (beds_low t options) (beds_high t options) (places ++ days) (ap (λ z. allow_at t ward + masses_low z t.level) e)
    (ap (λ z. allow_at t ward + masses_high z t.level) e) so_far)

-- and one more ward
pub ward_counted : (t : TableParts) (options : List ℕ) (ward : ℕ) (p : Peak) → 1 ≤ ward
    → IsPeakOver t options (flat_map (ward_places t) (range_with_len 1 (ward - 1)) ++ ward_places t ward) p
    → IsPeakOver t options (flat_map (ward_places t) (range_with_len 1 (ward + 1 - 1))) p
ward_counted t options ward p first so_far = subst (λ z. IsPeakOver t options z p) (sym (next_group (ward_places t) ward first)) so_far

-- all wards are counted
pub all_counted : (t : TableParts) (options : List ℕ) (wards : ℕ) (p : Peak) → wards ≡ ward_count t
    → IsPeakOver t options (flat_map (ward_places t) (range_with_len 1 wards)) p → IsCyclePeak t options p
all_counted t options wards p all so_far = subst (λ z. IsPeakOver t options (flat_map (ward_places t) (range_with_len 1 z)) p) all so_far

-- the peak of a cycle encloses the exact one
pub cycle_enclosed : (t : TableParts) (options : List ℕ) (p : Peak) → IsTables t → length options ≤ slot_count t → IsCyclePeak t options p
    → PeakEncloses t options t.level p.low p.high
cycle_enclosed t options p good few is =
    peak_encloses t options t.level (λ q. kept_census t options q.ward q.day) p (λ w d l m. census_stands t options (w + 1) (d + 1) good (omega arith) few) is
