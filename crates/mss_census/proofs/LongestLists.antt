-- A census list is no longer than the longest list of a slot lets it be.
use Rattle.std.proofs.Common.{◌≡◌, ℕ, zero, suc, ◌+◌, ◌*◌, ◌-◌, ◌/◌, ◌≤◌, inl, inr, Bool, true, false, cond, List, [], ◌∷◌, ◌<◌, Some, option_map, map, length, sum_by, get_or, take, slice_get, ap, subst, sym, arith}
use Rattle.std.specs.List.{All, slice_index_or}
use Rattle.std.proofs.lemmas.Bool.{cases_lt}
use Rattle.std.proofs.lemmas.List.Elements.{All-nil, All-cons, All-head, All-tail, All-weaker}
use Rattle.std.proofs.lemmas.List.Sums.{sum_by-append, sum_by-cons}
use Rattle.std.proofs.lemmas.Option.{slice_get_read}
use Rattle.std.proofs.Math.ListN.{get_or-eq_default}
use Rattle.mss_model.specs.Occurrences.{lies_on, offset}
use Rattle.mss_enclose.specs.Unit.{unit}
use Rattle.mss_enclose.specs.Kept.{joined_all}
use Rattle.mss_census.specs.WardLists.{WardLists, one_at, slot_parts, parts_from, census_list}

-- how many steps lists add to another
abbrev steps : List (List ℕ) → ℕ
steps parts = sum_by (λ p. length p - 1) parts

one-steps : (ls : List (List ℕ)) (place m : ℕ) → All (λ l. length l ≤ m) ls → steps (one_at ls place) ≤ m - 1
one-steps [] place m h = omega arith
one-steps (l ∷ ls) zero m h = let first : length l ≤ m = All-head (λ l. length l ≤ m) l ls h in omega (arith, first)
one-steps (l ∷ ls) (suc place) m h = one-steps ls place m (All-tail (λ l. length l ≤ m) l ls h)

short-lists : (lss : List (List (List ℕ))) (i m : ℕ) → All (All (λ l. length l ≤ m)) lss → All (λ l. length l ≤ m) (slice_index_or lss i [])
short-lists lss i m h = elim (cases_lt i (length lss)) [
  | inl inside ↦ h i [] inside
  | inr past ↦ rw (get_or-eq_default lss [] past) (All-nil (λ l. length l ≤ m))
]

steps-case : (b : Bool) (ps : List (List ℕ)) (m : ℕ) → steps ps ≤ m → steps (cond b ps []) ≤ m
steps-case true ps m h = h
steps-case false ps m h = omega arith

slot-steps : (lists : WardLists) (w day slot option m : ℕ) → All (All (λ l. length l ≤ m)) lists.lists → steps (slot_parts lists w day slot option) ≤ m - 1
slot-steps lists w day slot option m h =
    steps-case (lies_on lists.ward_of w option) _ (m - 1)
    (one-steps (slice_index_or lists.lists (option - 1) []) (offset lists.days day (slot / lists.rooms + 1)) m (short-lists lists.lists (option - 1) m h))

all-steps : (lists : WardLists) (w day slot m : ℕ) (options : List ℕ) → All (All (λ l. length l ≤ m)) lists.lists
    → steps (parts_from lists w day slot options) ≤ length options * (m - 1)
all-steps lists w day slot m [] h = omega arith
all-steps lists w day slot m (option ∷ options) h =
    omega (
      arith,
      slot-steps lists w day slot option m h,
      all-steps lists w day (slot + 1) m options h,
      sum_by-append (λ (p : List ℕ). length p - 1) (slot_parts lists w day slot option) (parts_from lists w day (slot + 1) options),
    )

joined-short : (j : List ℕ → List ℕ → List ℕ) → ((a b : List ℕ) → length (j a b) ≡ length a + length b - 1)
    → (a : List ℕ) (ps : List (List ℕ)) → length (joined_all j a ps) ≤ length a + steps ps
joined-short j len a [] = omega arith
joined-short j len a (p ∷ ps) = omega (arith, len a p, joined-short j len (j a p) ps, sum_by-cons (λ (q : List ℕ). length q - 1) p ps)

pub list-short : (j : List ℕ → List ℕ → List ℕ) → ((a b : List ℕ) → length (j a b) ≡ length a + length b - 1)
    → (lists : WardLists) (w day m : ℕ) (options : List ℕ) → All (All (λ l. length l ≤ m)) lists.lists
    → length (census_list j lists w day options) ≤ 1 + length options * (m - 1)
list-short j len lists w day m options h =
    omega (arith, joined-short j len (unit ∷ []) (parts_from lists w day 0 options), all-steps lists w day 0 m options h)

-- one list more of those that come first
all-next : {X : Type 0} (P : X → Type 0) (xs : List X) (k : ℕ) (x : X) → All P (take k xs) → Some x ≡ slice_get xs k → P x → All P (take (suc k) xs)
all-next P [] k x h e p = All-nil P
all-next P (y ∷ ys) zero x h e p = let same : x ≡ y = cc in All-cons P y [] (subst P same p) (All-nil P)
all-next P (y ∷ ys) (suc k) x h e p =
    All-cons P y (take (suc k) ys) (All-head P y (take k ys) h) (all-next P ys k x (All-tail P y (take k ys) h) e p)

pub all-more : {X : Type 0} (P : X → Type 0) (xs : List X) (k : ℕ) (x : X) → All P (take k xs) → Some x ≡ slice_get xs k → P x → All P (take (k + 1) xs)
all-more P xs k x h e p = let n : suc k ≡ k + 1 = omega arith in subst (λ i. All P (take i xs)) n (all-next P xs k x h e p)

read-mapped : {X Y : Type 0} (f : X → Y) (xs : List X) (k : ℕ) (x : X) → slice_get xs k ≡ Some x → Some (f x) ≡ slice_get (map f xs) k
read-mapped f [] k x e = cc
read-mapped f (y ∷ ys) zero x e = ap (option_map f) (sym e)
read-mapped f (y ∷ ys) (suc k) x e = read-mapped f ys k x e

-- the same for what each of some values shows
pub all-shown : {X Y : Type 0} (P : Y → Type 0) (f : X → Y) (xs : List X) (n k : ℕ) (x : X) → All P (take k (map f xs))
    → n ≡ length xs → k < n → x ≡ get_or xs k x → P (f x) → All P (take (k + 1) (map f xs))
all-shown P f xs n k x h long inside read p = all-more P (map f xs) k (f x) h (read-mapped f xs k x (slice_get_read xs n k x long inside read)) p

-- a longer list is within more
pub shorter : (n m : ℕ) (ls : List (List ℕ)) → n ≤ m → All (λ l. length l ≤ n) ls → All (λ l. length l ≤ m) ls
shorter n m ls h all = All-weaker (λ l. length l ≤ n) (λ l. length l ≤ m) (λ l f. omega (arith, h, f)) ls all

pub shorter-lists : (n m : ℕ) (lss : List (List (List ℕ))) → n ≤ m → All (All (λ l. length l ≤ n)) lss → All (All (λ l. length l ≤ m)) lss
shorter-lists n m lss h all = All-weaker (All (λ l. length l ≤ n)) (All (λ l. length l ≤ m)) (λ ls f. shorter n m ls h f) lss all
