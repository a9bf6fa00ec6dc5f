-- Children of one prefix differ on the wards of their last options alone.
use Rattle.std.proofs.Common.{◌≡◌, ◌+◌, ◌-◌, ◌*◌, ◌<◌, ◌≤◌, ◌==◌, ◌&&◌, ℕ, zero, suc, Bool, true, false, List, [], ◌∷◌, ◌++◌, length, map, take, get_or, replicate, refl, sym, ap, ap₂, ◌∙◌, inl, inr, arith, take_all, ne_eqb}
use Rattle.std.specs.Prelude.{flat_map, slice_set, if◌then◌else◌}
use Rattle.std.specs.List.{filter, range_with_len}
use Rattle.std.proofs.lemmas.Bool.{cases_Bool, cases_eq}
use Rattle.std.proofs.lemmas.Grind.{get_or-set_at}
use Rattle.std.proofs.lemmas.List.{get_or-set_other, length-append, length-map, take_more}
use Rattle.mss_model.specs.declared.parts.TableParts.{TableParts}
use Rattle.mss_model.specs.Legality.{option_at, given_minutes, could_take, some_below}
use Rattle.mss_model.specs.Occurrences.{lies_on, offset}
use Rattle.mss_model.specs.Peak.{largest_below}
use Rattle.mss_model.specs.TableWords.{slot_count, specialty_count, block_of, day_of, minutes_at, low_at, allow_at}
use Rattle.std.proofs.Math.Nat.{mul-le-mul}
use Rattle.mss_model.specs.Limits.{IsTables}
use Rattle.mss_model.proofs.RangeSums.{sum_below_ext}
use Rattle.mss_model.specs.Sums.{sum_below}
use Rattle.mss_enclose.specs.Unit.{unit}
use Rattle.mss_enclose.specs.Kept.{joined_all, raised}
use Rattle.mss_census.specs.WardLists.{WardLists, slot_parts, parts_from, census_list, lists_of}
use Rattle.mss_floor.specs.FloorLists.{floor_of, steady_list}
use Rattle.mss_floor.specs.FlooredLists.{fitting, plain_list, floored_census}
use Rattle.mss_floor.specs.ForcedBlocks.{AreForced, blocks_for, forced, forced_blocks, open_minutes}
use Rattle.mss_pctl.specs.Peaks.{Place, peak_places}
use Rattle.mss_bounds.specs.declared.ward_days.WardDay.{WardDay}
use Rattle.mss_bounds.specs.Children.{parent_of, idle_sibling}
use Rattle.mss_bounds.specs.PrefixBound.{low_number}
use Rattle.mss_bounds.specs.Spots.{place_of, places_of}
use Rattle.mss_bounds.proofs.ManyPlaces.{spot_at, place-at, places-few}

-- ---- a child and its parent

pub last-of : (c : List ℕ) → 0 < length c → parent_of c ++ get_or c (length c - 1) 0 ∷ [] ≡ c
last-of c some =
    let one : length c - 1 + 1 ≡ length c = omega (arith, some) in
    sym (take_more c (length c - 1) 0 (omega (arith, some))) ∙ ap (λ n. take n c) one ∙ take_all (length c) c (omega arith)

-- ---- an option of other wards adds nothing to a list

parts-beside : (lists : WardLists) (w d slot option : ℕ) (p : List ℕ) → lies_on lists.ward_of w option ≡ false
    → parts_from lists w d slot (p ++ option ∷ []) ≡ parts_from lists w d slot p
parts-beside lists w d slot option [] off = rw off refl
parts-beside lists w d slot option (o ∷ p) off = ap (λ ls. slot_parts lists w d slot o ++ ls) (parts-beside lists w d (slot + 1) option p off)

pub list-beside : (joined : List ℕ → List ℕ → List ℕ) (lists : WardLists) (w d option : ℕ) (p : List ℕ) → lies_on lists.ward_of w option ≡ false
    → census_list joined lists w d (p ++ option ∷ []) ≡ census_list joined lists w d p
list-beside joined lists w d option p off = ap (joined_all joined (unit ∷ [])) (parts-beside lists w d 0 option p off)

-- ---- nor to what other specialties miss

test-beside : (p : List ℕ) (a b j k : ℕ) → (a == j) ≡ false → (b == j) ≡ false → k < length p + 1 → (option_at (p ++ a ∷ []) k == j) ≡ (option_at (p ++ b ∷ []) k == j)
test-beside [] a b j zero not_a not_b l = not_a ∙ sym not_b
test-beside [] a b j (suc k) not_a not_b l = absurd (omega (arith, l))
test-beside (o ∷ p) a b j zero not_a not_b l = refl
test-beside (o ∷ p) a b j (suc k) not_a not_b l = test-beside p a b j k not_a not_b (omega (arith, l))

as-long : (p : List ℕ) (a b : ℕ) → length (p ++ a ∷ []) ≡ length (p ++ b ∷ [])
as-long p a b = length-append p (a ∷ []) ∙ sym (length-append p (b ∷ []))

minutes-beside : (t : TableParts) (p : List ℕ) (a b j : ℕ) → (a == j) ≡ false → (b == j) ≡ false → given_minutes t (p ++ a ∷ []) j ≡ given_minutes t (p ++ b ∷ []) j
minutes-beside t p a b j not_a not_b =
    let given : List ℕ → ℕ → ℕ = λ options slot. if option_at options slot == j then minutes_at t slot else 0 in
    sum_below_ext (length (p ++ a ∷ [])) (given (p ++ a ∷ [])) (given (p ++ b ∷ []))
    (λ k l. ap (λ (c : Bool). if c then minutes_at t k else 0) (test-beside p a b j k not_a not_b (omega (arith, l, length-append p (a ∷ [])))))
    ∙ ap (λ n. sum_below n (given (p ++ b ∷ []))) (as-long p a b)

forced-beside : (t : TableParts) (p : List ℕ) (a b j : ℕ) → (a == j) ≡ false → (b == j) ≡ false → forced t (p ++ a ∷ []) j ≡ forced t (p ++ b ∷ []) j
forced-beside t p a b j not_a not_b =
    ap₂ blocks_for (ap (λ m. low_at t j - m) (minutes-beside t p a b j not_a not_b))
    (ap (λ n. largest_below (slot_count t - n) (λ k. open_minutes t j (n + k))) (as-long p a b))

-- a child forces what its idle sibling does, but for the specialty of its last option
pub forced-of-child : (t : TableParts) (c idle : List ℕ) (option blocks : ℕ) → 0 < length c → option ≡ get_or c (length c - 1) 0 → option < length idle
    → AreForced t (idle_sibling c) idle → blocks ≡ forced t c option → AreForced t c (slice_set idle option blocks)
forced-of-child t c idle option blocks some is inside known here j from last = elim (cases_eq j option) [
  | inl same ↦ get_or-set_at idle option j blocks 0 same inside ∙ here ∙ ap (forced t c) (sym same)
  | inr other ↦
      get_or-set_other idle option j blocks 0 other ∙ known j from last
      ∙ forced-beside t (parent_of c) 0 option j (ne_eqb 0 j (omega (arith, from))) (ne_eqb option j (λ e. other (sym e)))
      ∙ ap (λ (o : ℕ). forced t (parent_of c ++ o ∷ []) j) is ∙ ap (λ (q : List ℕ). forced t q j) (last-of c some)
]

-- a specialty of the ward is none of other wards
distinct : (ward_of : List ℕ) (w a j : ℕ) → lies_on ward_of w a ≡ false → lies_on ward_of w j ≡ true → (a == j) ≡ false
distinct ward_of w a j off on = ne_eqb a j (λ e. (let no_way : false ≡ true = sym off ∙ ap (lies_on ward_of w) e ∙ on in cc))

-- the blocks that a specialty must still get on a ward
abbrev forced_here : TableParts → List ℕ → ℕ → ℕ → List ℕ
forced_here t prefix w j = if lies_on t.ward_of w j then replicate (forced t prefix j) j else []

here-beside : (t : TableParts) (p : List ℕ) (w a b j : ℕ) → lies_on t.ward_of w a ≡ false → lies_on t.ward_of w b ≡ false
    → forced_here t (p ++ a ∷ []) w j ≡ forced_here t (p ++ b ∷ []) w j
here-beside t p w a b j off_a off_b = elim (cases_Bool (lies_on t.ward_of w j)) [
  | inl on ↦ rw on (ap (λ n. replicate n j) (forced-beside t p a b j (distinct t.ward_of w a j off_a on) (distinct t.ward_of w b j off_b on)))
  | inr off ↦ rw off refl
]

blocks-beside : (t : TableParts) (p : List ℕ) (w a b : ℕ) (js : List ℕ) → lies_on t.ward_of w a ≡ false → lies_on t.ward_of w b ≡ false
    → flat_map (forced_here t (p ++ a ∷ []) w) js ≡ flat_map (forced_here t (p ++ b ∷ []) w) js
blocks-beside t p w a b [] off_a off_b = refl
blocks-beside t p w a b (j ∷ js) off_a off_b = ap₂ (λ x y. x ++ y) (here-beside t p w a b j off_a off_b) (blocks-beside t p w a b js off_a off_b)

-- ---- nor to the floored list

-- the floored list of a prefix of n options, where the blocks that must still come and the list without floors are given
abbrev floored_by : (List ℕ → List ℕ → List ℕ) → TableParts → ℕ → ℕ → List ℕ → List ℕ → List ℕ
floored_by joined t day n js list = joined_all joined list (fitting (slot_count t - n) (length list)
    (map (λ j. floor_of (map (λ q. raised (steady_list t.days (block_of t j) (offset t.days day q)))
    (filter (λ q. some_below (slot_count t - n) (λ k. (day_of t (n + k) == q) && could_take t (n + k) j)) (range_with_len 1 t.days)))) js))

floored-beside : (joined : List ℕ → List ℕ → List ℕ) (t : TableParts) (p : List ℕ) (w d a b : ℕ) → lies_on t.ward_of w a ≡ false → lies_on t.ward_of w b ≡ false
    → floored_census joined t (p ++ a ∷ []) w d ≡ floored_census joined t (p ++ b ∷ []) w d
floored-beside joined t p w d a b off_a off_b =
    let list_a : List ℕ = plain_list joined t (p ++ a ∷ []) w d in
    let js : List ℕ = forced_blocks t (p ++ a ∷ []) w in
    let list : plain_list joined t (p ++ a ∷ []) w d ≡ plain_list joined t (p ++ b ∷ []) w d =
    list-beside joined (lists_of t) w d a p off_a ∙ sym (list-beside joined (lists_of t) w d b p off_b) in
    ap (λ n. floored_by joined t d n js list_a) (as-long p a b)
    ∙ ap (λ (gs : List ℕ). floored_by joined t d (length (p ++ b ∷ [])) gs list_a) (blocks-beside t p w a b (range_with_len 1 (specialty_count t)) off_a off_b)
    ∙ ap (λ (l : List ℕ). floored_by joined t d (length (p ++ b ∷ [])) (forced_blocks t (p ++ b ∷ []) w) l) list

-- a child has the low number of its idle sibling where its last option isn't of the ward
pub low-beside : (joined : List ℕ → List ℕ → List ℕ) (low_of : List ℕ → ℕ → ℕ) (t : TableParts) (c : List ℕ) (place : Place) → 0 < length c
    → lies_on t.ward_of place.ward (get_or c (length c - 1) 0) ≡ false
    → low_number (floored_census joined) low_of t (idle_sibling c) place ≡ low_number (floored_census joined) low_of t c place
low-beside joined low_of t c place some off =
    ap (λ l. allow_at t place.ward + low_of l t.level) (floored-beside joined t (parent_of c) place.ward place.day 0 (get_or c (length c - 1) 0) refl off
    ∙ ap (λ (q : List ℕ). floored_census joined t q place.ward place.day) (last-of c some))

-- ---- the places of low numbers

pub place-there : (t : TableParts) (spots : List WardDay) (i : ℕ) → places_of spots ≡ peak_places t → i < length spots
    → get_or (peak_places t) i (record { ward = 0; day = 0 }) ≡ place_of (spot_at spots i)
place-there t spots i is l = ap (λ (ps : List Place). get_or ps i (record { ward = 0; day = 0 })) (sym is) ∙ place-at spots i (record { ward = 0; day = 0 }) l

-- no count comes near its limit
pub child-pushes : (t : TableParts) (spots : List WardDay) (i s : ℕ) → IsTables t → places_of spots ≡ peak_places t → i < length spots
    → (i * (slot_count t + 1 - s) ≤ 100576) × (slot_count t ≤ 448)
child-pushes t spots i s good is l =
    let slots : slot_count t ≤ 28 * 16 = mul-le-mul good.slots.days.1 good.slots.rooms.count.1 in
    let few : i ≤ 224 = omega (arith, l, places-few t good, ap length is, length-map spots place_of) in
    let left : slot_count t + 1 - s ≤ 449 = omega (arith, slots) in
    let both : i * (slot_count t + 1 - s) ≤ 224 * 449 = mul-le-mul few left in
    (both, omega (arith, slots))
