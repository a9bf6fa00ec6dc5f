-- The upper number of a cycle and the bound of a prefix beside the exact peaks.
use Rattle.std.proofs.Common.{◌≡◌, ℕ, ◌+◌, ◌*◌, ◌-◌, ◌^◌, ◌≤◌, List, [], ◌∷◌, length, sum, ◌∙◌, arith, le_refl, add-le-add, le_of_mul-le-mul_right, lit<, nat_le, le-leb, leb-true}
use Rattle.mss_model.specs.declared.parts.TableParts.{TableParts}
use Rattle.mss_model.specs.Limits.{IsTables}
use Rattle.mss_model.specs.TableWords.{slot_count, allow_at}
use Rattle.mss_model.specs.Distribution.{convolution}
use Rattle.mss_model.specs.Percentile.{cumulative, percentile_at, percentile_below, percentile_above}
use Rattle.mss_model.specs.Census.{census}
use Rattle.mss_model.specs.Peak.{peak_at, peak_below, peak_above}
use Rattle.mss_model.proofs.LeastNumber.{least-le-least}
use Rattle.mss_enclose.specs.Unit.{unit}
use Rattle.mss_enclose.specs.Kept.{StandsFor, Within}
use Rattle.mss_enclose.specs.NumberLaws.{masses_high-at_least, masses_high-at_most}
use Rattle.mss_floor.specs.FlooredLists.{floored_census}
use Rattle.mss_floor.specs.FlooredPrefixLaws.{floored_census-at_least}
use Rattle.mss_pctl.specs.Peaks.{peak_places}
use Rattle.mss_pctl.specs.CensusPeak.{kept_census, beds_high}
use Rattle.mss_pctl.specs.PeakSidesLaws.{over-le, largest-places}
use Rattle.mss_pctl.specs.CensusStandsLaws.{census_stands}
use Rattle.mss_bounds.specs.PrefixBound.{low_number, bound_of}
use Rattle.mss_pctl.specs.FirstLargestLaws.{first-number}
use Rattle.mss_search.specs.Searching.{upper_of}

-- the laws of a kind of list
pub record KindLaws (joined : List ℕ → List ℕ → List ℕ) (S : List ℕ → List ℕ → Type 0) (low_of : List ℕ → ℕ → ℕ) : Type 0 where
  pub starts : S (unit ∷ []) (1 ∷ [])
  pub sums : (a b e f : List ℕ) → S a e → StandsFor b f → S (joined a b) (convolution e f)
  pub low_at_most : (a e : List ℕ) (level : ℕ) → S a e → low_of a level ≤ percentile_at e level
  pub keeps_near : (a b e f : List ℕ) (s r : ℕ) → S a e → Within s a e → StandsFor b f → Within r b f → Within (s + r + (length a + length b - 1)) (joined a b) (convolution e f)
  pub low_at_least : (a e : List ℕ) (level : ℕ) → S a e → Within (2 ^ 30) a e → percentile_below e level ≤ low_of a level
  pub joined_length : (a b : List ℕ) → length (joined a b) ≡ length a + length b - 1

-- the same beds are always taken
with-allowance : (t : TableParts) (ward x y : ℕ) → x ≤ y → allow_at t ward + x ≤ allow_at t ward + y
with-allowance t ward x y h = add-le-add (le_refl (allow_at t ward)) h

-- the upper number is at least the peak
pub upper-above : (t : TableParts) (c : List ℕ) → IsTables t → length c ≤ slot_count t → peak_at t c t.level ≤ upper_of t c
upper-above t c good few =
    rw (largest-places t (beds_high t c)) (over-le t (λ w d. allow_at t w + percentile_at (census t w d c) t.level) (λ w d. beds_high t c (record { ward = w; day = d }))
    (λ w d l m. with-allowance t (w + 1) _ _
    (masses_high-at_least (kept_census t c (w + 1) (d + 1)) (census t (w + 1) (d + 1) c) t.level (census_stands t c (w + 1) (d + 1) good (omega arith) few).stands)))

-- and at most the peak a little above the level
pub upper-below : (t : TableParts) (c : List ℕ) → IsTables t → length c ≤ slot_count t → upper_of t c ≤ peak_above t c t.level
upper-below t c good few =
    rw (largest-places t (beds_high t c)) (over-le t (λ w d. beds_high t c (record { ward = w; day = d })) (λ w d. allow_at t w + percentile_above (census t w d c) t.level)
    (λ w d l m. let near = census_stands t c (w + 1) (d + 1) good (omega arith) few in
    with-allowance t (w + 1) _ _ (masses_high-at_most (kept_census t c (w + 1) (d + 1)) (census t (w + 1) (d + 1) c) t.level near.stands near.small)))

percentile-rises : (e : List ℕ) (v : ℕ) → percentile_at e v ≤ percentile_above e v
percentile-rises e v =
    least-le-least (length e) (λ x. nat_le (v * sum e) (cumulative e x * 1000000)) (λ x. nat_le ((v * 2 ^ 30 + 1000000) * sum e) (cumulative e x * (1000000 * 2 ^ 30)))
    (λ x h. le-leb _ _ (le_of_mul-le-mul_right {k = 2 ^ 30} (omega (arith, leb-true _ _ h)) (lit< tt)))

-- the peak rises with the level
pub peak-rises : (t : TableParts) (c : List ℕ) → peak_at t c t.level ≤ peak_above t c t.level
peak-rises t c = over-le t (λ w d. allow_at t w + percentile_at (census t w d c) t.level) (λ w d. allow_at t w + percentile_above (census t w d c) t.level)
    (λ w d l m. with-allowance t (w + 1) _ _ (percentile-rises (census t (w + 1) (d + 1) c) t.level))

-- the bound of a prefix is at least its peak a little below the level
pub bound-tight : (joined : List ℕ → List ℕ → List ℕ) (S : List ℕ → List ℕ → Type 0) (low_of : List ℕ → ℕ → ℕ) → KindLaws joined S low_of → (t : TableParts) (p : List ℕ) → IsTables t → length p ≤ slot_count t
    → peak_below t p t.level ≤ (bound_of (floored_census joined) low_of t p).number
bound-tight joined S low_of laws t p good few =
    rw (first-number (low_number (floored_census joined) low_of t p) (peak_places t) ∙ largest-places t (low_number (floored_census joined) low_of t p))
    (over-le t (λ w d. allow_at t w + percentile_below (census t w d p) t.level) (λ w d. low_number (floored_census joined) low_of t p (record { ward = w; day = d }))
    (λ w d l m. with-allowance t (w + 1) _ _
    (floored_census-at_least joined S low_of laws.sums laws.keeps_near laws.joined_length laws.starts laws.low_at_least t p (w + 1) (d + 1) t.level good (omega arith) few)))
