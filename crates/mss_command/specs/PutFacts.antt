-- What files hold after some are put in turn.
use Rattle.std.proofs.Common.{◌≡◌, ◌≢◌, ℕ, Bool, true, ◌&&◌, not, List, [], ◌∷◌, map, Some, cond, refl, sym, ap, subst, ◌∙◌}
use Rattle.std.specs.FinMap.{get, insert, get-insert, slice_cmp-IsAntisymmetric, nat_cmp-IsAntisymmetric}
use Rattle.std.specs.List.{AllByRecursion}
use Rattle.std.specs.Ordering.{nat_cmp, is_eq}
use Rattle.std.specs.Cmp.{tied_itself}
use Rattle.std.specs.Cmp.Lexicographic.{slice_cmp, nat_list_cmp_total}
use Rattle.std.specs.declared.cmp.Ordering.TheVariants.{Less, Equal, Greater}
use Rattle.std.proofs.lemmas.Bool.{and_parts}
use Rattle.mss_desk.specs.Desk.{Files}
use Rattle.mss_command.specs.Outcome.{put_all}

-- a name is none of these
abbrev pub IsOther : List ℕ → List (List ℕ) → Type 0
IsOther name names = AllByRecursion (λ other. name ≢ other) names

-- no name stands twice
abbrev pub AreDistinct : List (List ℕ) → Type 0
AreDistinct [] = Unit {0}
AreDistinct (name ∷ names) = IsOther name names × AreDistinct names

-- the same as tests
abbrev pub is_other : List ℕ → List (List ℕ) → Bool
is_other name [] = true
is_other name (other ∷ others) = not (is_eq (slice_cmp nat_cmp name other)) && is_other name others

abbrev pub are_distinct : List (List ℕ) → Bool
are_distinct [] = true
are_distinct (name ∷ names) = is_other name names && are_distinct names

differ : (name other : List ℕ) → not (is_eq (slice_cmp nat_cmp name other)) ≡ true → name ≢ other
differ name other test same = cc (rw (same, tied_itself nat_list_cmp_total other) at test)

other_tested : (name : List ℕ) (names : List (List ℕ)) → is_other name names ≡ true → IsOther name names
other_tested name [] test = tt
other_tested name (other ∷ others) test =
    let parts = and_parts (not (is_eq (slice_cmp nat_cmp name other))) (is_other name others) test in
    (differ name other parts.0, other_tested name others parts.1)

pub distinct_tested : (names : List (List ℕ)) → are_distinct names ≡ true → AreDistinct names
distinct_tested [] test = tt
distinct_tested (name ∷ names) test =
    let parts = and_parts (is_other name names) (are_distinct names) test in
    (other_tested name names parts.0, distinct_tested names parts.1)

-- each of these names is none of the others, as a test
abbrev pub are_other : List (List ℕ) → List (List ℕ) → Bool
are_other [] others = true
are_other (name ∷ names) others = is_other name others && are_other names others

pub each_other : (names others : List (List ℕ)) → are_other names others ≡ true → AllByRecursion (λ name. IsOther name others) names
each_other [] others test = tt
each_other (name ∷ names) others test =
    let parts = and_parts (is_other name others) (are_other names others) test in
    (other_tested name others parts.0, each_other names others parts.1)

get_other : (m : Files) (name bytes q : List ℕ) → q ≢ name → get (insert m name bytes) q ≡ get m q
get_other m name bytes q distinct =
    get-insert nat_list_cmp_total m name bytes q
    ∙ elim (slice_cmp nat_cmp q name)
    as (λ r. slice_cmp nat_cmp q name ≡ r → cond (is_eq r) (Some bytes) (get m q) ≡ get m q)
    [ Less ↦ λ _. refl | Equal ↦ λ e. absurd (distinct (slice_cmp-IsAntisymmetric nat_cmp-IsAntisymmetric q name e)) | Greater ↦ λ _. refl ] refl

pub get_same : (m : Files) (name bytes : List ℕ) → get (insert m name bytes) name ≡ Some bytes
get_same m name bytes = get-insert nat_list_cmp_total m name bytes name ∙ ap (λ r. cond (is_eq r) (Some bytes) (get m name)) (tied_itself nat_list_cmp_total name)

-- other files are as before
put_all_other : (puts : List (List ℕ × List ℕ)) (m : Files) (name : List ℕ) → IsOther name (map (λ put. put.0) puts) → get (put_all puts m) name ≡ get m name
put_all_other [] m name other = refl
put_all_other (put ∷ puts) m name other = put_all_other puts (insert m put.0 put.1) name other.1 ∙ get_other m put.0 put.1 name other.0

-- files with different names hold what is put
put_all_stored : (puts : List (List ℕ × List ℕ)) (m : Files) → AreDistinct (map (λ put. put.0) puts)
    → map (λ name. get (put_all puts m) name) (map (λ put. put.0) puts) ≡ map (λ put. Some put.1) puts
put_all_stored [] m distinct = refl
put_all_stored (put ∷ puts) m distinct =
    let after = insert m put.0 put.1 in
    let here : get (put_all puts after) put.0 ≡ Some put.1 = put_all_other puts after put.0 distinct.0 ∙ get_same m put.0 put.1 in
    ap (λ first. first ∷ map (λ name. get (put_all puts after) name) (map (λ put. put.0) puts)) here ∙ ap (λ rest. Some put.1 ∷ rest) (put_all_stored puts after distinct.1)

-- what is put under these names, and from which files to which
module _ (puts : List (List ℕ × List ℕ)) (names : List (List ℕ)) (before after : Files) (are : map (λ put. put.0) puts ≡ names) (put : after ≡ put_all puts before) where
  pub stored_after : AreDistinct names → map (λ name. get after name) names ≡ map (λ put. Some put.1) puts
  stored_after distinct =
      ap (λ (m : Files). map (λ name. get m name) names) put
      ∙ subst (λ (names : List (List ℕ)). map (λ name. get (put_all puts before) name) names ≡ map (λ put. Some put.1) puts) are
      (put_all_stored puts before (subst AreDistinct (sym are) distinct))

  pub other_after : (name : List ℕ) → IsOther name names → get after name ≡ get before name
  other_after name other = ap (λ (m : Files). get m name) put ∙ put_all_other puts before name (subst (IsOther name) (sym are) other)

  -- so is each file of other names
  pub others_after : (others : List (List ℕ)) → AllByRecursion (λ other. IsOther other names) others → AllByRecursion (λ other. get after other ≡ get before other) others
  others_after [] distinct = tt
  others_after (other ∷ others) distinct = (other_after other distinct.0, others_after others distinct.1)
