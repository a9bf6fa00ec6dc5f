-- What is kept of lines when one more comes.
use Rattle.std.proofs.Common.{◌≡◌, ℕ, ◌+◌, ◌<◌, ◌≤◌, get_or, List, [], ◌∷◌, ◌++◌, Result, Ok, Err, OnErr, map, length, refl, ap, ◌∙◌, arith, length-append}
use Rattle.std.specs.List.{AllByRecursion}
use Rattle.std.proofs.lemmas.List.{map-append}
use Rattle.std.proofs.Math.ListN.{get_or-append}
use Rattle.mss_cert.specs.declared.certificate.Line.{Line}
use Rattle.mss_cert.specs.declared.certificate.Line.TheVariants as line
use Rattle.mss_cert.specs.declared.lines.Kept.{Kept}
use Rattle.mss_cert.specs.declared.lines.Kept.TheVariants as kept
use Rattle.mss_cert.specs.declared.lines.Judged.{Judged}
use Rattle.mss_cert.specs.declared.lines.Left.{Left}
use Rattle.mss_cert.specs.declared.lines.Numbers.{Numbers}
use Rattle.mss_cert.specs.KeptLines.{IsKept, Keeps, AreKept, judged_at, line_of}

still-judged : (old new : Numbers) (js : List Judged) (place : ℕ) → new.judged.items ≡ old.judged.items ++ js → place < length old.judged.items → judged_at new place ≡ judged_at old place
still-judged old new js place j h = ap (λ ns. get_or ns place (record { turn = 0; number = 0; ward = 0; day = 0 })) j ∙ get_or-append old.judged.items js _ place h

-- numbers that were there stay at their places
pub keeps-more : (old new : Numbers) (js : List Judged) (ls : List Left) → new.judged.items ≡ old.judged.items ++ js → new.left.items ≡ old.left.items ++ ls → Keeps old new
keeps-more old new js ls j o (kept.Branch turn) h = (tt, refl)
keeps-more old new js ls j o (kept.Dead rule) h = (tt, refl)
keeps-more old new js ls j o (kept.Full place) h =
    (omega (arith, h, ap length j, length-append old.judged.items js), ap (λ n. line.Full n.turn n.number n.ward n.day) (still-judged old new js place j h))
keeps-more old new js ls j o (kept.Closed place) h =
    (omega (arith, h, ap length j, length-append old.judged.items js), ap (λ n. line.Closed n.turn n.number n.ward n.day) (still-judged old new js place j h))
keeps-more old new js ls j o (kept.OpenAt place) h = (
  omega (arith, h, ap length o, length-append old.left.items ls),
  ap (λ n. line.OpenAt n.number n.ward n.day) (ap (λ ns. get_or ns place (record { number = 0; ward = 0; day = 0 })) o ∙ get_or-append old.left.items ls _ place h),
)

still-kept : (old new : Numbers) (ks : List Kept) → Keeps old new → AllByRecursion (IsKept old) ks → AllByRecursion (IsKept new) ks
still-kept old new [] keeps all = tt
still-kept old new (k ∷ ks) keeps all = ((keeps k all.0).0, still-kept old new ks keeps all.1)

pub same-lines : (old new : Numbers) (ks : List Kept) → Keeps old new → AreKept old ks → map (line_of new) ks ≡ map (line_of old) ks
same-lines old new ks keeps all = each ks all.each
  where
    each : (ks : List Kept) → AllByRecursion (IsKept old) ks → map (line_of new) ks ≡ map (line_of old) ks
    each [] h = refl
    each (k ∷ ks) h = rw ((keeps k h.0).1, each ks h.1) refl

pub kept-still : (old new : Numbers) (ks : List Kept) → Keeps old new → AreKept old ks → AreKept new ks
kept-still old new ks keeps all = record { few = all.few; each = still-kept old new ks keeps all.each }

one-more : (new : Numbers) (ks : List Kept) (k : Kept) → AllByRecursion (IsKept new) ks → IsKept new k → AllByRecursion (IsKept new) (ks ++ k ∷ [])
one-more new [] k all one = (one, tt)
one-more new (l ∷ ks) k all one = (all.0, one-more new ks k all.1 one)

pub kept-more : (old new : Numbers) (ks : List Kept) (k : Kept) → Keeps old new → AreKept old ks → IsKept new k → length ks + 1 ≤ 4294967292 → AreKept new (ks ++ k ∷ [])
kept-more old new ks k keeps all one few = record {
  few = omega (arith, few, length-append ks (k ∷ []));
  each = one-more new ks k (still-kept old new ks keeps all.each) one;
}

pub lines-more : (old new : Numbers) (ks : List Kept) (k : Kept) (line : Line) (lines : List Line) → Keeps old new → AreKept old ks → map (line_of old) ks ≡ lines
    → line_of new k ≡ line → map (line_of new) (ks ++ k ∷ []) ≡ lines ++ line ∷ []
lines-more old new ks k line lines keeps all shown is =
    map-append (line_of new) ks (k ∷ []) ∙ ap (λ ls. ls ++ line_of new k ∷ []) (same-lines old new ks keeps all ∙ shown) ∙ ap (λ l. lines ++ l ∷ []) is

-- what holds, holds at an error
pub at-error : {T E P : Type 0} (r : Result T E) → P → OnErr r P
at-error (Ok x) p = tt
at-error (Err e) p = p
