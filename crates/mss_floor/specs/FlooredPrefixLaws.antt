-- The low number of a prefix with its floors: at most the percentile of each legal cycle, and at least that of the prefix.
use Rattle.std.proofs.Common.{◌≡◌, ℕ, ◌+◌, ◌*◌, ◌-◌, ◌^◌, ◌<◌, ◌≤◌, List, [], ◌∷◌, ◌++◌, length, sum_by, sym, subst, ◌∙◌, arith}
use Rattle.std.proofs.Math.Nat.{mul-le-mul}
use Rattle.mss_model.specs.declared.parts.TableParts.{TableParts}
use Rattle.mss_model.specs.Distribution.{convolution, convolution_all}
use Rattle.mss_model.specs.Percentile.{percentile_at, percentile_below}
use Rattle.mss_model.specs.TableWords.{slot_count}
use Rattle.mss_model.specs.Limits.{IsTables}
use Rattle.mss_model.specs.Census.{census}
use Rattle.mss_model.specs.Legality.{IsLegal}
use Rattle.mss_enclose.specs.Unit.{unit}
use Rattle.mss_enclose.specs.FloorLaws.{length-kept_convolution}
use Rattle.mss_enclose.specs.Kept.{StandsFor, Within, kept_convolution, rest_of}
use Rattle.mss_enclose.specs.MassesLaws.{masses-push, masses-start}
use Rattle.mss_enclose.specs.ManyPushesLaws.{joined-length, start-near, within-more}
use Rattle.mss_census.specs.declared.quantity.Quantity.TheVariants.{Census}
use Rattle.mss_census.specs.WardLists.{lists_of, parts_from}
use Rattle.mss_census.specs.SlotSumsLaws.{parts-stand, slot-adds, slots-sum, sums_from, exact-is}
use Rattle.mss_census.specs.SlotSizesLaws.{parts-size, parts-few, meets-all}
use Rattle.mss_census.specs.WholeCensusLaws.{census-stands, census-long}
use Rattle.mss_floor.specs.FlooredLists.{plain_list, floored_census}
use Rattle.mss_floor.specs.FlooredLowLaws.{floored_low-at_most, floored_low-at_least, floored_low-short, floored-near}

-- at most the percentile of each legal cycle that the prefix begins
pub floored_census-at_most : (j : List ℕ → List ℕ → List ℕ) (S : List ℕ → List ℕ → Type 0) (low_of : List ℕ → ℕ → ℕ)
    → ((a b e f : List ℕ) → S a e → StandsFor b f → S (j a b) (convolution e f)) → S (unit ∷ []) (1 ∷ [])
    → ((a e : List ℕ) (v : ℕ) → S a e → low_of a v ≤ percentile_at e v)
    → (t : TableParts) (p r : List ℕ) (w day v : ℕ) → IsTables t → 0 < w → IsLegal t (p ++ r)
    → low_of (floored_census j t p w day) v ≤ percentile_at (census t w day (p ++ r)) v
floored_census-at_most j S low_of law start low t p r w day v h pos legal =
    floored_low-at_most j S low_of law low t p r w day v (plain_list j t p w day) h legal (census-stands j S law start Census t w day p h pos)

-- how near the list of a prefix is, by the number of its options
census-close : (j : List ℕ → List ℕ → List ℕ) (S : List ℕ → List ℕ → Type 0)
    → ((a b e f : List ℕ) → S a e → StandsFor b f → S (j a b) (convolution e f))
    → ((a b e f : List ℕ) (s r : ℕ) → S a e → Within s a e → StandsFor b f → Within r b f → Within (s + r + (length a + length b - 1)) (j a b) (convolution e f))
    → ((a b : List ℕ) → length (j a b) ≡ length a + length b - 1) → S (unit ∷ []) (1 ∷ [])
    → (t : TableParts) (w day : ℕ) (p : List ℕ) → IsTables t → 0 < w → length p ≤ slot_count t
    → Within (11118 * 960 + length p * 15361) (plain_list j t p w day) (census t w day p)
census-close j S law near len start t w day p h pos l =
    let ps : List (List ℕ) = parts_from (lists_of t) w day 0 p in
    let rests : sum_by rest_of (parts_from (lists_of t) w day 0 p) ≤ 11118 * 960 =
    omega (arith, parts-size Census t w day 0 p rest_of 11118 h pos (λ slot option. (slot-adds Census t day slot option h).lacks), meets-all t day (length p) h l) in
    let longs : sum_by (λ p. length p - 1) (parts_from (lists_of t) w day 0 p) ≤ 15360 =
    omega (arith, parts-size Census t w day 0 p (λ p. length p - 1) 16 h pos (λ slot option. (slot-adds Census t day slot option h).steps), meets-all t day (length p) h l) in
    subst (Within (11118 * 960 + length p * 15361) (plain_list j t p w day)) (sym (exact-is Census t w day p ∙ slots-sum Census t w day 0 p h pos))
    (within-more (sum_by rest_of ps + length ps * 15361) (11118 * 960 + length p * 15361) (plain_list j t p w day) (convolution_all (sums_from Census t w day 0 p))
    (omega (arith, rests, parts-few Census t w day 0 p h pos))
    (start-near j S law near len start 15361 ps (sums_from Census t w day 0 p) (parts-stand Census t w day 0 p h pos) (omega (arith, longs))))

-- no larger than the longest list
pub floored_census-short : (j : List ℕ → List ℕ → List ℕ) (S : List ℕ → List ℕ → Type 0) (low_of : List ℕ → ℕ → ℕ)
    → ((a b e f : List ℕ) → S a e → StandsFor b f → S (j a b) (convolution e f)) → ((a b : List ℕ) → length (j a b) ≡ length a + length b - 1) → S (unit ∷ []) (1 ∷ [])
    → ((a e : List ℕ) (v : ℕ) → S a e → low_of a v ≤ percentile_at e v)
    → (t : TableParts) (p : List ℕ) (w day v : ℕ) → IsTables t → 0 < w → length p ≤ slot_count t → low_of (floored_census j t p w day) v ≤ 15361
floored_census-short j S low_of law len start low t p w day v h pos l =
    let ps : List (List ℕ) = parts_from (lists_of t) w day 0 p in
    let es : List (List ℕ) = sums_from Census t w day 0 p in
    let kept : StandsFor (plain_list kept_convolution t p w day) (census t w day p) = census-stands kept_convolution StandsFor masses-push masses-start Census t w day p h pos in
    let same : length (plain_list kept_convolution t p w day) ≡ length (plain_list j t p w day) =
    joined-length kept_convolution length-kept_convolution (unit ∷ []) ps es (parts-stand Census t w day 0 p h pos)
    ∙ sym (joined-length j len (unit ∷ []) ps es (parts-stand Census t w day 0 p h pos)) in
    floored_low-short j S low_of law low t p w day v (plain_list j t p w day) h (census-stands j S law start Census t w day p h pos)
    (sym kept.same_length ∙ same) (census-long j len Census t w day p h pos l)

-- at least the percentile of the prefix at the level below
pub floored_census-at_least : (j : List ℕ → List ℕ → List ℕ) (S : List ℕ → List ℕ → Type 0) (low_of : List ℕ → ℕ → ℕ)
    → ((a b e f : List ℕ) → S a e → StandsFor b f → S (j a b) (convolution e f))
    → ((a b e f : List ℕ) (s r : ℕ) → S a e → Within s a e → StandsFor b f → Within r b f → Within (s + r + (length a + length b - 1)) (j a b) (convolution e f))
    → ((a b : List ℕ) → length (j a b) ≡ length a + length b - 1) → S (unit ∷ []) (1 ∷ [])
    → ((a e : List ℕ) (v : ℕ) → S a e → Within (2 ^ 30) a e → percentile_below e v ≤ low_of a v)
    → (t : TableParts) (p : List ℕ) (w day v : ℕ) → IsTables t → 0 < w → length p ≤ slot_count t
    → percentile_below (census t w day p) v ≤ low_of (floored_census j t p w day) v
floored_census-at_least j S low_of law near len start low t p w day v h pos l =
    let list : List ℕ = plain_list j t p w day in
    let stands : S (plain_list j t p w day) (census t w day p) = census-stands j S law start Census t w day p h pos in
    let slots : slot_count t ≤ 28 * 16 = mul-le-mul h.slots.days.1 h.slots.rooms.count.1 in
    floored_low-at_least j S low_of law low t p w day v list h stands
    (floored-near j S law near len t p w day (11118 * 960 + length p * 15361) list h stands (census-close j S law near len start t w day p h pos l)
    (census-long j len Census t w day p h pos l) (omega (arith, slots, l)))
