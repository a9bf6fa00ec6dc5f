-- List by list, the greatest cumulative numbers of some lists.
use Rattle.std.proofs.Common.{◌≡◌, ℕ, ◌+◌, ◌<◌, ◌==◌, Bool, true, false, cond, refl, sym, ap, ◌∙◌, arith, List, [], ◌∷◌, ◌++◌, length, map, get_or, max, min, eq-eqb}
use Rattle.std.specs.Prelude.{if◌then◌else◌}
use Rattle.std.specs.List.{range_with_len, filter}
use Rattle.std.proofs.lemmas.Bool.{ne_eqb}
use Rattle.std.proofs.lemmas.List.{map-append}
use Rattle.std.proofs.lemmas.List.FromFn.{filter_of_map_range_with_len_more}
use Rattle.mss_model.specs.Percentile.{cumulative}
use Rattle.mss_enclose.specs.Kept.{raised, rest_of}
use Rattle.mss_enclose.specs.LeanLaws.{length-raised, cumulative-raised}
use Rattle.mss_floor.specs.FloorLists.{greatest_cumulative, shortest, steady_list}
use Rattle.mss_floor.specs.LowestSums.{AreFull, AreSums, day_choice}
use Rattle.mss_model.specs.declared.parts.TableParts.{TableParts}
use Rattle.mss_model.specs.TableWords.{block_of}
use Rattle.mss_model.specs.Occurrences.{offset}
use Rattle.mss_floor.specs.FloorOrderLaws.{shortest-some}

greatest-more : (lists : List (List ℕ)) (b : List ℕ) (x : ℕ) → greatest_cumulative (lists ++ b ∷ []) x ≡ max (greatest_cumulative lists x) (cumulative b x)
greatest-more [] b x = omega arith
greatest-more (a ∷ lists) b x = omega (arith, greatest-more lists b x)

shortest-more : (a : List ℕ) (lists : List (List ℕ)) (b : List ℕ) → shortest a (lists ++ b ∷ []) ≡ min (shortest a lists) (length b)
shortest-more a [] b = omega arith
shortest-more a (c ∷ lists) b = omega (arith, shortest-more a lists b)

pub sums-more : (lists : List (List ℕ)) (a old new : List ℕ) (len n rest : ℕ) → AreFull lists → 0 < length a → rest ≡ rest_of a → AreSums lists old len
    → ((x : ℕ) → x < length a → get_or new x 0 ≡ max (get_or old x 0) (cumulative a x + rest))
    → n ≡ (if len == 0 then length a else min len (length a)) → AreSums (lists ++ raised a ∷ []) new n
sums-more [] a old new len n rest full some r s front e =
    let none : (len == 0) ≡ true = eq-eqb len 0 s.long in
    let all : n ≡ length a = rw none at e in
    record {
      long = omega (arith, all, length-raised a);
      here = λ x l. omega (arith, front x (omega (arith, all, l)), s.none s.long x, cumulative-raised a x some, r);
      none = λ z. absurd (omega (arith, all, z, some));
    }
sums-more (b ∷ lists) a old new len n rest full some r s front e =
    let known : 0 < shortest b lists = shortest-some b lists full in
    let before : (len == 0) ≡ false = ne_eqb len 0 (λ z. omega (arith, z, s.long, known)) in
    let least : n ≡ min len (length a) = rw before at e in
    record {
      long = omega (arith, least, s.long, length-raised a, shortest-more b lists (raised a));
      here = λ x l. omega (arith, front x (omega (arith, least, l)), s.here x (omega (arith, least, l)), cumulative-raised a x some, r, greatest-more (b ∷ lists) (raised a) x);
      none = λ z. absurd (omega (arith, least, z, some, known, s.long));
    }

-- the list of a day that counts
pub choice-is : (t : TableParts) (j day q : ℕ) (counts : Bool) (list : List ℕ) → counts ≡ true → list ≡ steady_list t.days (block_of t j) (offset t.days day q)
    → raised list ∷ [] ≡ day_choice t j day q counts
choice-is t j day q counts list h e = rw h (ap (λ l. raised l ∷ []) e)

-- ---- the lists of the days that pass

map-self : (xs : List ℕ) → map (λ x. x) xs ≡ xs
map-self [] = refl
map-self (x ∷ xs) = ap (λ r. x ∷ r) (map-self xs)

chosen : (f : ℕ → List ℕ) (p : ℕ → Bool) (n : ℕ) → map f (filter p (range_with_len 1 (n + 1))) ≡ map f (filter p (range_with_len 1 n)) ++ map f (cond (p (n + 1)) ((n + 1) ∷ []) [])
chosen f p n =
    ap (λ ds. map f (filter p ds)) (sym (map-self (range_with_len 1 (n + 1))))
    ∙ ap (map f) (filter_of_map_range_with_len_more p (λ x. x) 1 n (n + 1) (omega arith) ∙ ap (λ ds. filter p ds ++ cond (p (n + 1)) ((n + 1) ∷ []) []) (map-self (range_with_len 1 n)))
    ∙ map-append f (filter p (range_with_len 1 n)) (cond (p (n + 1)) ((n + 1) ∷ []) [])

-- one day more
pub choices-more : (t : TableParts) (j day n : ℕ) (p : ℕ → Bool)
    → map (λ q. raised (steady_list t.days (block_of t j) (offset t.days day q))) (filter p (range_with_len 1 (n + 1)))
    ≡ map (λ q. raised (steady_list t.days (block_of t j) (offset t.days day q))) (filter p (range_with_len 1 n)) ++ day_choice t j day (n + 1) (p (n + 1))
choices-more t j day n p =
    chosen (λ q. raised (steady_list t.days (block_of t j) (offset t.days day q))) p n
    ∙ ap (λ r. map (λ q. raised (steady_list t.days (block_of t j) (offset t.days day q))) (filter p (range_with_len 1 n)) ++ r) (choice (p (n + 1)))
  where
    choice : (b : Bool) → map (λ q. raised (steady_list t.days (block_of t j) (offset t.days day q))) (cond b ((n + 1) ∷ []) []) ≡ day_choice t j day (n + 1) b
    choice true = refl
    choice false = refl
