-- A text has one first fault.
use Rattle.std.proofs.Common.{◌≡◌, ℕ, ◌+◌, List, ◌∷◌, ◌++◌, length, refl, sym, ◌∙◌, ap, subst}
use Rattle.mss_lines.specs.Lines.{IsOneLine}
use Rattle.mss_lines.specs.OneLineLaws.{no_end_in, same_line}
use Rattle.mss_cert.specs.declared.faults.CertKind.{CertKind}
use Rattle.mss_cert.specs.declared.faults.CertKind.TheVariants as kind
use Rattle.mss_cert.specs.CertificateText.{head_text, end_text}
use Rattle.mss_cert.specs.CertificateFaults.{HasBadLine, HasNoEnd, GoesOn, HasVersion, HasNoHead, IsAfterHead, IsFaultAt}
use Rattle.mss_cert.specs.Rows.{IsBodyFault}
use Rattle.mss_cert.specs.VersionsLaws.{one_version}
use Rattle.mss_cert.specs.OneTextLaws.{after_head, bad-tail, end-tail, end-one_line, left-tail, same_trees}

-- ---- in the lines from the third on

bad_bad : (bytes : List ℕ) (m n : ℕ) → HasBadLine bytes m → HasBadLine bytes n → m ≡ n
bad_bad bytes m n p q =
    let both = same_trees p.tree q.tree (p.bad ++ (10 ∷ p.later)) (q.bad ++ (10 ∷ q.later)) p.short q.short
    (bad-tail p.bad p.later p.whole p.no_line) (bad-tail q.bad q.later q.whole q.no_line) (sym p.parts ∙ q.parts) in
    p.numbered ∙ ap (λ t. 3 + length t) both.0 ∙ sym q.numbered

left_left : (bytes : List ℕ) (m n : ℕ) → HasNoEnd bytes m → HasNoEnd bytes n → m ≡ n
left_left bytes m n p q =
    let both = same_trees p.tree q.tree p.left q.left p.short q.short (left-tail p.left p.unfinished) (left-tail q.left q.unfinished) (sym p.parts ∙ q.parts) in
    p.numbered ∙ ap (λ t. 3 + length t) both.0 ∙ sym q.numbered

on_on : (bytes : List ℕ) (m n : ℕ) → GoesOn bytes m → GoesOn bytes n → m ≡ n
on_on bytes m n p q =
    let both = same_trees p.tree q.tree (end_text p.last ++ (10 ∷ (p.byte ∷ p.later))) (end_text q.last ++ (10 ∷ (q.byte ∷ q.later))) p.short q.short
    (end-tail p.last (p.byte ∷ p.later) p.short_last) (end-tail q.last (q.byte ∷ q.later) q.short_last) (sym p.parts ∙ q.parts) in
    p.numbered ∙ ap (λ t. 4 + length t) both.0 ∙ sym q.numbered

bad_left : (bytes : List ℕ) (m n : ℕ) → HasBadLine bytes m → HasNoEnd bytes n → ⊥
bad_left bytes m n p q =
    let both = same_trees p.tree q.tree (p.bad ++ (10 ∷ p.later)) q.left p.short q.short (bad-tail p.bad p.later p.whole p.no_line) (left-tail q.left q.unfinished) (sym p.parts ∙ q.parts) in
    no_end_in p.bad p.later (subst IsOneLine (sym both.1) q.unfinished)

bad_on : (bytes : List ℕ) (m n : ℕ) → HasBadLine bytes m → GoesOn bytes n → ⊥
bad_on bytes m n p q =
    let both = same_trees p.tree q.tree (p.bad ++ (10 ∷ p.later)) (end_text q.last ++ (10 ∷ (q.byte ∷ q.later))) p.short q.short
    (bad-tail p.bad p.later p.whole p.no_line) (end-tail q.last (q.byte ∷ q.later) q.short_last) (sym p.parts ∙ q.parts) in
    p.no_end (record {
      end = q.last;
      short = q.short_last;
      text = (same_line p.bad (end_text q.last) p.later (q.byte ∷ q.later) p.whole (end-one_line q.last q.short_last) both.1).0;
    })

left_on : (bytes : List ℕ) (m n : ℕ) → HasNoEnd bytes m → GoesOn bytes n → ⊥
left_on bytes m n p q =
    let both = same_trees p.tree q.tree p.left (end_text q.last ++ (10 ∷ (q.byte ∷ q.later))) p.short q.short
    (left-tail p.left p.unfinished) (end-tail q.last (q.byte ∷ q.later) q.short_last) (sym p.parts ∙ q.parts) in
    no_end_in (end_text q.last) (q.byte ∷ q.later) (subst IsOneLine both.1 p.unfinished)

one_body : (bytes : List ℕ) (k l : CertKind) (m n : ℕ) → IsBodyFault bytes k m → IsBodyFault bytes l n → (k ≡ l) × (m ≡ n)
one_body bytes kind.Line kind.Line m n p q = (refl, bad_bad bytes m n p q)
one_body bytes kind.Line kind.NoEnd m n p q = absurd (bad_left bytes m n p q)
one_body bytes kind.Line kind.After m n p q = absurd (bad_on bytes m n p q)
one_body bytes kind.NoEnd kind.Line m n p q = absurd (bad_left bytes n m q p)
one_body bytes kind.NoEnd kind.NoEnd m n p q = (refl, left_left bytes m n p q)
one_body bytes kind.NoEnd kind.After m n p q = absurd (left_on bytes m n p q)
one_body bytes kind.After kind.Line m n p q = absurd (bad_on bytes n m q p)
one_body bytes kind.After kind.NoEnd m n p q = absurd (left_on bytes n m q p)
one_body bytes kind.After kind.After m n p q = (refl, on_on bytes m n p q)
one_body bytes kind.Line _ m n p q = absurd q
one_body bytes kind.NoEnd _ m n p q = absurd q
one_body bytes kind.After _ m n p q = absurd q
one_body bytes _ l m n p q = absurd p

-- ---- in the whole text

-- a fault of the lines from the third on
record IsLater (bytes : List ℕ) (k : CertKind) (n : ℕ) : Type 0 where
  rest : List ℕ
  head : IsAfterHead bytes rest
  fault : IsBodyFault rest k n

one_later : (bytes : List ℕ) (k l : CertKind) (m n : ℕ) → IsLater bytes k m → IsLater bytes l n → (k ≡ l) × (m ≡ n)
one_later bytes k l m n p q =
    let same : p.rest ≡ q.rest = after_head bytes p.rest q.rest p.head q.head.slots q.head.options q.head.level q.head.short q.head.first in
    one_body q.rest k l m n (subst (λ r. IsBodyFault r k m) same p.fault) q.fault

headed : (bytes rest : List ℕ) → HasNoHead bytes → IsAfterHead bytes rest → ⊥
headed bytes rest none a =
    none.none a.slots a.options a.level rest a.short
    (one_version bytes none.later (head_text a.slots a.options a.level ++ (10 ∷ rest)) none.first a.first)

-- the kind of a fault of a text: no version, no head, or a later one
data Sort (bytes : List ℕ) (k : CertKind) (n : ℕ) : Type 0 where
  version : k ≡ kind.Version → ((later : List ℕ) → HasVersion bytes later → ⊥) → n ≡ 1 → Sort bytes k n
  no_head : k ≡ kind.Head → HasNoHead bytes → n ≡ 2 → Sort bytes k n
  later : IsLater bytes k n → Sort bytes k n

sort_of : (bytes : List ℕ) (k : CertKind) (n : ℕ) → IsFaultAt bytes k n → Sort bytes k n
sort_of bytes kind.TooLong n p = absurd p
sort_of bytes kind.Version n p = version refl p.0 p.1
sort_of bytes kind.Head n p = no_head refl p.0 p.1
sort_of bytes kind.Line n p = later (record { rest = p.0; head = p.1; fault = p.2 })
sort_of bytes kind.NoEnd n p = later (record { rest = p.0; head = p.1; fault = p.2 })
sort_of bytes kind.After n p = later (record { rest = p.0; head = p.1; fault = p.2 })

one_sort : (bytes : List ℕ) (k l : CertKind) (m n : ℕ) → Sort bytes k m → Sort bytes l n → (k ≡ l) × (m ≡ n)
one_sort bytes k l m n (version e none i) (version f other j) = (e ∙ sym f, i ∙ sym j)
one_sort bytes k l m n (version e none i) (no_head f h j) = absurd (none h.later h.first)
one_sort bytes k l m n (version e none i) (later q) = absurd (none _ q.head.first)
one_sort bytes k l m n (no_head e h i) (version f none j) = absurd (none h.later h.first)
one_sort bytes k l m n (no_head e h i) (no_head f g j) = (e ∙ sym f, i ∙ sym j)
one_sort bytes k l m n (no_head e h i) (later q) = absurd (headed bytes q.rest h q.head)
one_sort bytes k l m n (later p) (version f none j) = absurd (none _ p.head.first)
one_sort bytes k l m n (later p) (no_head f h j) = absurd (headed bytes p.rest h p.head)
one_sort bytes k l m n (later p) (later q) = one_later bytes k l m n p q

pub one_fault : (bytes : List ℕ) (k l : CertKind) (m n : ℕ) → IsFaultAt bytes k m → IsFaultAt bytes l n → (k ≡ l) × (m ≡ n)
one_fault bytes k l m n p q = one_sort bytes k l m n (sort_of bytes k m p) (sort_of bytes l n q)
