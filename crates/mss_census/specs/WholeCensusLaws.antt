-- The list of a quantity stands for it, is near it, and has room.
use Rattle.std.proofs.Common.{◌≡◌, ℕ, ◌+◌, ◌*◌, ◌-◌, ◌^◌, ◌<◌, ◌≤◌, List, [], ◌∷◌, length, sum_by, replicate, ◌++◌, ap, sym, subst, ◌∙◌, arith}
use Rattle.std.proofs.lemmas.List.{length-append, length-replicate}
use Rattle.std.proofs.Math.Nat.{mul-le-mul}
use Rattle.mss_model.specs.declared.parts.TableParts.{TableParts}
use Rattle.mss_model.specs.Distribution.{convolution, convolution_all}
use Rattle.mss_model.specs.TableWords.{slot_count}
use Rattle.mss_model.specs.Limits.{IsTables}
use Rattle.mss_enclose.specs.Unit.{unit}
use Rattle.mss_enclose.specs.Kept.{rest_of, joined_all, StandsFor, Within, PartsStand}
use Rattle.mss_enclose.specs.ManyPushesLaws.{start-all, start-near, joined-length, within-more}
use Rattle.mss_census.specs.declared.quantity.Quantity.{Quantity}
use Rattle.mss_census.specs.WardLists.{quantity_lists, slot_parts, parts_from, census_list, exact_of}
use Rattle.mss_census.specs.SlotPushesLaws.{census-more}
use Rattle.mss_census.specs.SlotSumsLaws.{parts-stand, slot-stands, slots-sum, sums_from, slot_sums, slot-adds, exact-is}
use Rattle.mss_census.specs.SlotSizesLaws.{parts-size, parts-few, meets-all}

pub census-stands : (j : List ℕ → List ℕ → List ℕ) (S : List ℕ → List ℕ → Type 0)
    → ((a b e f : List ℕ) → S a e → StandsFor b f → S (j a b) (convolution e f)) → S (unit ∷ []) (1 ∷ [])
    → (q : Quantity) (t : TableParts) (w day : ℕ) (options : List ℕ) → IsTables t → 0 < w
    → S (census_list j (quantity_lists q t) w day options) (exact_of q t w day options)
census-stands j S law start q t w day options h pos =
    subst (S (census_list j (quantity_lists q t) w day options)) (sym (exact-is q t w day options ∙ slots-sum q t w day 0 options h pos))
    (start-all j S law start (parts_from (quantity_lists q t) w day 0 options) (sums_from q t w day 0 options) (parts-stand q t w day 0 options h pos))

longs : (q : Quantity) (t : TableParts) (w day : ℕ) (options : List ℕ) → IsTables t → 0 < w → length options ≤ slot_count t
    → sum_by (λ p. length p - 1) (parts_from (quantity_lists q t) w day 0 options) ≤ 15360
longs q t w day options h pos l =
    omega (arith, parts-size q t w day 0 options (λ p. length p - 1) 16 h pos (λ slot option. (slot-adds q t day slot option h).steps), meets-all t day (length options) h l)

pub census-long : (j : List ℕ → List ℕ → List ℕ) → ((a b : List ℕ) → length (j a b) ≡ length a + length b - 1)
    → (q : Quantity) (t : TableParts) (w day : ℕ) (options : List ℕ) → IsTables t → 0 < w → length options ≤ slot_count t
    → length (census_list j (quantity_lists q t) w day options) ≤ 15361
census-long j len q t w day options h pos l =
    let e = joined-length j len (unit ∷ []) (parts_from (quantity_lists q t) w day 0 options) (sums_from q t w day 0 options) (parts-stand q t w day 0 options h pos) in
    omega (arith, e, longs q t w day options h pos l)

pub census-near : (j : List ℕ → List ℕ → List ℕ) (S : List ℕ → List ℕ → Type 0)
    → ((a b e f : List ℕ) → S a e → StandsFor b f → S (j a b) (convolution e f))
    → ((a b e f : List ℕ) (s r : ℕ) → S a e → Within s a e → StandsFor b f → Within r b f → Within (s + r + (length a + length b - 1)) (j a b) (convolution e f))
    → ((a b : List ℕ) → length (j a b) ≡ length a + length b - 1) → S (unit ∷ []) (1 ∷ [])
    → (q : Quantity) (t : TableParts) (w day : ℕ) (options : List ℕ) → IsTables t → 0 < w → length options ≤ slot_count t
    → Within (2 ^ 30) (census_list j (quantity_lists q t) w day options) (exact_of q t w day options)
census-near j S law near len start q t w day options h pos l =
    let ps : List (List ℕ) = parts_from (quantity_lists q t) w day 0 options in
    let rests : sum_by rest_of (parts_from (quantity_lists q t) w day 0 options) ≤ 11118 * 960 =
    omega (arith, parts-size q t w day 0 options rest_of 11118 h pos (λ slot option. (slot-adds q t day slot option h).lacks), meets-all t day (length options) h l) in
    let slots : slot_count t ≤ 28 * 16 = mul-le-mul h.slots.days.1 h.slots.rooms.count.1 in
    let few : length (parts_from (quantity_lists q t) w day 0 options) ≤ 448 = omega (arith, parts-few q t w day 0 options h pos, slots, l) in
    let total : sum_by rest_of (parts_from (quantity_lists q t) w day 0 options) + length (parts_from (quantity_lists q t) w day 0 options) * 15361 ≤ 2 ^ 30 = omega (arith, rests, few) in
    subst (Within (2 ^ 30) (census_list j (quantity_lists q t) w day options)) (sym (exact-is q t w day options ∙ slots-sum q t w day 0 options h pos))
    (within-more (sum_by rest_of ps + length ps * 15361) (2 ^ 30) (census_list j (quantity_lists q t) w day options) (convolution_all (sums_from q t w day 0 options)) total
    (start-near j S law near len start 15361 ps (sums_from q t w day 0 options) (parts-stand q t w day 0 options h pos) (omega (arith, longs q t w day options h pos l))))

-- there is room for one slot more
pub push-room : (j : List ℕ → List ℕ → List ℕ) → ((a b : List ℕ) → length (j a b) ≡ length a + length b - 1)
    → (q : Quantity) (t : TableParts) (w day slot option size : ℕ) (options : List ℕ) → IsTables t → 0 < w → length options ≤ slot → slot < slot_count t
    → ((os : List ℕ) → length os ≤ slot_count t → length (census_list j (quantity_lists q t) w day os) ≤ size)
    → length (census_list j (quantity_lists q t) w day options) + sum_by (λ p. length p - 1) (slot_parts (quantity_lists q t) w day slot option) ≤ size
push-room j len q t w day slot option size options h pos l m enough =
    let gap : ℕ = slot - length options in
    let all : List ℕ = options ++ replicate (slot - length options) 0 ++ option ∷ [] in
    let n : length (options ++ replicate (slot - length options) 0 ++ option ∷ []) ≡ slot + 1 =
    omega (arith, length-append (options ++ replicate (slot - length options) 0) (option ∷ []), length-append options (replicate (slot - length options) 0), length-replicate {A = ℕ} (slot - length options) 0) in
    let after : length (census_list j (quantity_lists q t) w day (options ++ replicate (slot - length options) 0 ++ option ∷ [])) ≤ size =
    enough (options ++ replicate (slot - length options) 0 ++ option ∷ []) (omega (arith, n, m)) in
    let more : census_list j (quantity_lists q t) w day (options ++ replicate (slot - length options) 0 ++ option ∷ []) ≡ joined_all j (census_list j (quantity_lists q t) w day options) (slot_parts (quantity_lists q t) w day slot option) =
    census-more j (quantity_lists q t) w day slot option options (slot - length options) (omega (arith, l)) in
    let stand : PartsStand (slot_parts (quantity_lists q t) w day slot option) (slot_sums q t w day slot option) = slot-stands q t w day slot option h pos in
    let e = joined-length j len (census_list j (quantity_lists q t) w day options) (slot_parts (quantity_lists q t) w day slot option) (slot_sums q t w day slot option) stand in
    omega (arith, e, after, ap length more)
