-- A text has one first fault.
use Rattle.std.proofs.Common.{◌≡◌, ℕ, ◌≤◌, List, ◌∷◌, ◌++◌, length, refl, sym, ◌∙◌, subst, arith}
use Rattle.std.proofs.lemmas.List.{append_cancel_left}
use Rattle.mss_weights.specs.declared.faults.WeightsKind.{WeightsKind}
use Rattle.mss_weights.specs.declared.faults.WeightsKind.TheVariants as kind
use Rattle.mss_weights.specs.ListLines.{IsListsFault}
use Rattle.mss_weights.specs.WeightsFaults.{GoesOn, HasBadList, HasNoHead, IsAfterHead, IsFaultAt}
use Rattle.mss_weights.specs.WeightsText.{head_text, version_text, words}
use Rattle.mss_weights.specs.ListTextsLaws.{no_more}
use Rattle.mss_weights.specs.WeightTextsLaws.{after_head}

-- ---- in the lines from the third on

-- the lists before one bad line are no fewer than those before another
no_later : (bytes : List ℕ) (m n : ℕ) (p : HasBadList bytes m) (q : HasBadList bytes n) → length q.lists ≤ length p.lists
no_later bytes m n p q = no_more words p.lists q.lists bytes p.left q.left p.short q.short (omega (arith, q.few)) p.none p.parts q.parts

bad_bad : (bytes : List ℕ) (m n : ℕ) → HasBadList bytes m → HasBadList bytes n → m ≡ n
bad_bad bytes m n p q = omega (arith, no_later bytes m n p q, no_later bytes n m q p, p.numbered, q.numbered)

bad_on : (bytes : List ℕ) (m n : ℕ) → HasBadList bytes m → GoesOn bytes n → ⊥
bad_on bytes m n p q =
    let all = no_more words p.lists q.lists bytes p.left (q.byte ∷ q.later) p.short q.short (omega (arith, q.all)) p.none p.parts q.parts in
    omega (arith, all, p.few, q.all)

one_lists : (bytes : List ℕ) (k l : WeightsKind) (m n : ℕ) → IsListsFault bytes k m → IsListsFault bytes l n → (k ≡ l) × (m ≡ n)
one_lists bytes kind.List kind.List m n p q = (refl, bad_bad bytes m n p q)
one_lists bytes kind.List kind.After m n p q = absurd (bad_on bytes m n p q)
one_lists bytes kind.After kind.List m n p q = absurd (bad_on bytes n m q p)
one_lists bytes kind.After kind.After m n p q = (refl, p.numbered ∙ sym q.numbered)
one_lists bytes kind.List _ m n p q = absurd q
one_lists bytes kind.After _ m n p q = absurd q
one_lists bytes _ l m n p q = absurd p

-- ---- in the whole text

-- a fault of the lines from the third on
record IsLater (bytes : List ℕ) (k : WeightsKind) (n : ℕ) : Type 0 where
  rest : List ℕ
  head : IsAfterHead bytes rest
  fault : IsListsFault rest k n

one_later : (bytes : List ℕ) (k l : WeightsKind) (m n : ℕ) → IsLater bytes k m → IsLater bytes l n → (k ≡ l) × (m ≡ n)
one_later bytes k l m n p q =
    let same : p.rest ≡ q.rest = after_head bytes p.rest q.rest p.head q.head.number q.head.power q.head.reach q.head.short q.head.parts in
    one_lists q.rest k l m n (subst (λ r. IsListsFault r k m) same p.fault) q.fault

headed : (bytes rest : List ℕ) → HasNoHead bytes → IsAfterHead bytes rest → ⊥
headed bytes rest none a =
    none.none a.number a.power a.reach rest a.short
    (append_cancel_left version_text none.later (head_text a.number a.power a.reach ++ (10 ∷ rest)) (sym none.parts ∙ a.parts))

-- the kind of a fault of a text: no version, no head, or a later one
data Sort (bytes : List ℕ) (k : WeightsKind) (n : ℕ) : Type 0 where
  version : k ≡ kind.Version → ((later : List ℕ) → bytes ≡ version_text ++ later → ⊥) → n ≡ 1 → Sort bytes k n
  no_head : k ≡ kind.Head → HasNoHead bytes → n ≡ 2 → Sort bytes k n
  later : IsLater bytes k n → Sort bytes k n

sort_of : (bytes : List ℕ) (k : WeightsKind) (n : ℕ) → IsFaultAt bytes k n → Sort bytes k n
sort_of bytes kind.TooLong n p = absurd p
sort_of bytes kind.Version n p = version refl p.0 p.1
sort_of bytes kind.Head n p = no_head refl p.0 p.1
sort_of bytes kind.List n p = later (record { rest = p.0; head = p.1; fault = p.2 })
sort_of bytes kind.After n p = later (record { rest = p.0; head = p.1; fault = p.2 })

one_sort : (bytes : List ℕ) (k l : WeightsKind) (m n : ℕ) → Sort bytes k m → Sort bytes l n → (k ≡ l) × (m ≡ n)
one_sort bytes k l m n (version e none i) (version f other j) = (e ∙ sym f, i ∙ sym j)
one_sort bytes k l m n (version e none i) (no_head f h j) = absurd (none h.later h.parts)
one_sort bytes k l m n (version e none i) (later q) = absurd (none _ q.head.parts)
one_sort bytes k l m n (no_head e h i) (version f none j) = absurd (none h.later h.parts)
one_sort bytes k l m n (no_head e h i) (no_head f g j) = (e ∙ sym f, i ∙ sym j)
one_sort bytes k l m n (no_head e h i) (later q) = absurd (headed bytes q.rest h q.head)
one_sort bytes k l m n (later p) (version f none j) = absurd (none _ p.head.parts)
one_sort bytes k l m n (later p) (no_head f h j) = absurd (headed bytes p.rest h p.head)
one_sort bytes k l m n (later p) (later q) = one_later bytes k l m n p q

pub one_fault : (bytes : List ℕ) (k l : WeightsKind) (m n : ℕ) → IsFaultAt bytes k m → IsFaultAt bytes l n → (k ≡ l) × (m ≡ n)
one_fault bytes k l m n p q = one_sort bytes k l m n (sort_of bytes k m p) (sort_of bytes l n q)
