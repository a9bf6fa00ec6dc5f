-- Only one cycle gives each class of alike slots the same options in rising order.
use Rattle.std.proofs.Common.{◌≡◌, ℕ, zero, suc, ◌+◌, ◌-◌, ◌<◌, ◌≤◌, ◌==◌, ◌&&◌, nat_le, List, length, Bool, true, false, refl, sym, subst, arith, add-one, ◌∙◌, inl, inr}
use Rattle.std.specs.Prelude.{if◌then◌else◌}
use Rattle.std.proofs.lemmas.Bool.{cases_Bool, cases_eq, cases_lt, eq-eqb, le-leb, lt-leb, ne_eqb}
use Rattle.std.proofs.lemmas.Grind.{same_number_lists}
use Rattle.mss_model.specs.declared.parts.TableParts.{TableParts}
use Rattle.mss_model.specs.Legality.{option_at}
use Rattle.mss_model.specs.Sums.{sum_below}
use Rattle.mss_model.proofs.RangeParts.{sum_below_split}
use Rattle.mss_model.proofs.RangeSums.{sum_below_ext, sum_below_le, sum_below_none, sum_below_swap}
use Rattle.mss_alike.specs.Alike.{HaveSameOptions, alike_count, is_alike}
use Rattle.mss_alike.specs.AlikeLaws.{alike_is, is_alike_of}
use Rattle.mss_alike.specs.RisingLaws.{Rises}

alike_itself : (t : TableParts) (s : ℕ) → is_alike t s s ≡ true
alike_itself t s = is_alike_of t s s (record { day = refl; minutes = refl; fixed = refl; suited = λ j some known. refl })

alike_back : (t : TableParts) (a b : ℕ) → is_alike t a b ≡ true → is_alike t b a ≡ true
alike_back t a b e =
    let h = alike_is t a b e in
    is_alike_of t b a (record { day = sym h.day; minutes = sym h.minutes; fixed = sym h.fixed; suited = λ j some known. sym (h.suited j some known) })

-- ---- how many slots of a class have at most an option

abbrev up_to : Bool → ℕ → ℕ → ℕ
up_to same x o = if same && nat_le x o then 1 else 0

abbrev class_up_to : TableParts → List ℕ → ℕ → ℕ → ℕ
class_up_to t options slot option = sum_below (length options) (λ other. up_to (is_alike t slot other) (option_at options other) option)

miss : (n x : ℕ) → n ≤ x → sum_below n (λ p. if x == p then 1 else 0) ≡ 0
miss zero x l = refl
miss (suc n) x l = rw (ne_eqb x n (λ e. omega arith)) (omega (arith, miss n x (omega arith)))

hit : (n x : ℕ) → x < n → sum_below n (λ p. if x == p then 1 else 0) ≡ 1
hit zero x l = absurd (omega arith)
hit (suc n) x l = elim (cases_eq x n) [
  | inl same ↦ rw (eq-eqb x n same) (omega (arith, miss n x (omega arith)))
  | inr other ↦ rw (ne_eqb x n other) (omega (arith, hit n x (omega arith)))
]

each_option : (same : Bool) (x o : ℕ) → up_to same x o ≡ sum_below (o + 1) (λ p. if same && (x == p) then 1 else 0)
each_option false x o = sym (sum_below_none (o + 1))
each_option true x o = elim (cases_lt o x) [
  | inl over ↦ rw (lt-leb x o over) (sym (miss (o + 1) x (omega arith)))
  | inr under ↦ rw (le-leb x o under) (sym (hit (o + 1) x (omega arith)))
]

counted : (t : TableParts) (c : List ℕ) (s o : ℕ) → class_up_to t c s o ≡ sum_below (o + 1) (λ p. alike_count t c s p)
counted t c s o =
    sum_below_ext (length c) _ _ (λ u l. each_option (is_alike t s u) (option_at c u) o)
    ∙ sum_below_swap (length c) (o + 1) (λ u p. if is_alike t s u && (option_at c u == p) then 1 else 0)

-- ---- the first slot that differs

abbrev members : TableParts → ℕ → ℕ → ℕ
members t s n = sum_below n (λ u. if is_alike t s u then 1 else 0)

one_within : (same : Bool) (x o : ℕ) → (same ≡ true → x ≤ o) → (if same then 1 else 0) ≤ up_to same x o
one_within false x o h = omega arith
one_within true x o h = rw (le-leb x o (h refl)) (omega arith)

at_most_one : (same : Bool) (x o : ℕ) → up_to same x o ≤ (if same then 1 else 0)
at_most_one false x o = omega arith
at_most_one true x o = elim (cases_Bool (nat_le x o)) [ inl fits ↦ rw fits (omega arith) | inr over ↦ rw over (omega arith) ]

none_within : (same : Bool) (x o : ℕ) → (same ≡ true → o < x) → up_to same x o ≡ 0
none_within false x o h = refl
none_within true x o h = rw (lt-leb x o (h refl)) refl

at_least : (t : TableParts) (c : List ℕ) (s : ℕ) → s < length c → Rises t c (length c) → members t s (s + 1) ≤ class_up_to t c s (option_at c s)
at_least t c s l rises =
    let F : ℕ → ℕ = λ u. up_to (is_alike t s u) (option_at c u) (option_at c s) in
    let e : s + 1 + (length c - (s + 1)) ≡ length c = omega arith in
    let split : sum_below (length c) F ≡ sum_below (s + 1) F + sum_below (length c - (s + 1)) (λ k. F (s + 1 + k)) = rw e at (sum_below_split (s + 1) (length c - (s + 1)) F) in
    let front : members t s (s + 1) ≤ sum_below (s + 1) F = sum_below_le (s + 1) _ F (λ u ul. one_within (is_alike t s u) (option_at c u) (option_at c s)
    (λ same. elim (cases_eq u s) [
      | inl here ↦ subst (λ x. option_at c x ≤ option_at c s) (sym here) (omega arith)
      | inr before ↦ rises u s (omega arith) l (alike_back t s u same)
    ])) in
    omega arith

at_most : (t : TableParts) (d : List ℕ) (s o : ℕ) → s < length d → Rises t d (length d) → o < option_at d s → class_up_to t d s o ≤ members t s s
at_most t d s o l rises less =
    let F : ℕ → ℕ = λ u. up_to (is_alike t s u) (option_at d u) o in
    let e : s + (length d - s) ≡ length d = omega arith in
    let split : sum_below (length d) F ≡ sum_below s F + sum_below (length d - s) (λ k. F (s + k)) = rw e at (sum_below_split s (length d - s) F) in
    let front : sum_below s F ≤ members t s s = sum_below_le s F _ (λ u ul. at_most_one (is_alike t s u) (option_at d u) o) in
    let rest : sum_below (length d - s) (λ k. F (s + k)) ≡ 0 = sum_below_ext (length d - s) (λ k. F (s + k)) (λ k. 0) (λ k kl. none_within (is_alike t s (s + k)) (option_at d (s + k)) o
    (λ same. elim (cases_eq (s + k) s) [
      | inl here ↦ subst (λ x. o < option_at d x) (sym here) less
      | inr after ↦ omega (arith, less, rises s (s + k) (omega arith) (omega arith) same)
    ])) ∙ sum_below_none (length d - s) in
    omega arith

no_less : (t : TableParts) (c d : List ℕ) (s : ℕ) → s < length c → length c ≡ length d → Rises t c (length c) → Rises t d (length d)
    → HaveSameOptions t d c → option_at d s ≤ option_at c s
no_less t c d s l long pc pd same = elim (cases_lt (option_at c s) (option_at d s)) [
  | inl less ↦
      let o = option_at c s in
      let alike : class_up_to t c s o ≡ class_up_to t d s o = counted t c s o ∙ sum_below_ext (o + 1) _ _ (λ p pl. same s p) ∙ sym (counted t d s o) in
      let more : members t s (s + 1) ≡ members t s s + 1 = rw (add-one s, alike_itself t s) refl in
      absurd (omega (arith, alike, more, at_least t c s l pc, at_most t d s o (omega arith) pd less))
  | inr fits ↦ fits
]

pub one-cycle : (t : TableParts) (c d : List ℕ) → length c ≡ length d → Rises t c (length c) → Rises t d (length d)
    → HaveSameOptions t d c → c ≡ d
one-cycle t c d long pc pd same = same_number_lists c d long (λ k l. omega (
  arith,
  no_less t c d k l long pc pd same,
  no_less t d c k (omega arith) (sym long) pd pc (λ slot option. sym (same slot option)),
))
