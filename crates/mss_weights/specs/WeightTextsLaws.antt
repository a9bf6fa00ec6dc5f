-- A text is that of one certificate of weights, or has a fault.
use Rattle.std.proofs.Common.{◌≡◌, ◌≢◌, ℕ, ◌≤◌, List, [], ◌∷◌, ◌++◌, length, get_or, codes, refl, sym, ◌∙◌, ap, subst, arith, Ok, Err, Result, IfOk, IfErr, MatchResult}
use Rattle.std.specs.List.{AllByRecursion}
use Rattle.std.proofs.lemmas.List.{append-nil, append_cancel_left}
use Rattle.mss_lines.specs.Fields.{AreShort}
use Rattle.mss_lines.specs.Lines.{IsOneLine}
use Rattle.mss_weights.specs.LabelledNumbersLaws.{same_three, three-one_line}
use Rattle.mss_lines.specs.OneLineLaws.{is_one_line, tells_one_line, no_end_in, same_line}
use Rattle.mss_weights.specs.declared.faults.WeightsKind.{WeightsKind}
use Rattle.mss_weights.specs.declared.faults.WeightsKind.TheVariants as kind
use Rattle.mss_weights.specs.declared.faults.WeightsRefusal.{WeightsRefusal}
use Rattle.mss_weights.specs.declared.faults.WeightsRefusal.TheVariants as refused
use Rattle.mss_weights.specs.declared.weights.Weights.{Weights}
use Rattle.mss_weights.specs.ListLines.{IsListsFault, RefusesLists}
use Rattle.mss_weights.specs.WeightsFaults.{IsAfterHead, HasNoHead, IsFaultAt, RefusesText}
use Rattle.mss_weights.specs.WeightsText.{IsShort, head_text, lists_of, lists_text, version_text, weights_text, words}
use Rattle.mss_weights.specs.ListTextsLaws.{no_more, same_lists}

head-one_line : (number power reach : ℕ) → AreShort (number ∷ power ∷ reach ∷ []) → IsOneLine (head_text number power reach)
unfolding is_one_line
head-one_line number power reach h =
    three-one_line (codes "number") (codes "power") (codes "reach") number power reach (tells_one_line (codes "number") refl)
    (tells_one_line (codes "power") refl) (tells_one_line (codes "reach") refl) h

-- what follows the first two lines
pub after_head : (bytes x y : List ℕ) → IsAfterHead bytes x → (n p r : ℕ) → AreShort (n ∷ p ∷ r ∷ []) → bytes ≡ version_text ++ (head_text n p r ++ (10 ∷ y)) → x ≡ y
after_head bytes x y a n p r short h =
    (same_line (head_text a.number a.power a.reach) (head_text n p r) x y (head-one_line a.number a.power a.reach a.short) (head-one_line n p r short)
    (append_cancel_left version_text (head_text a.number a.power a.reach ++ (10 ∷ x)) (head_text n p r ++ (10 ∷ y)) (sym a.parts ∙ h))).1

pub short_lists : (w : Weights) → IsShort w → AllByRecursion AreShort (lists_of w)
short_lists w h = (h.places, (h.blocks, (h.slots, (h.kinds, tt))))

-- ---- the text of a certificate has no fault

pub text_is_good : (w : Weights) (kind : WeightsKind) (at : ℕ) → IsShort w → IsFaultAt (weights_text w) kind at → ⊥
text_is_good w kind.TooLong at p f = f
text_is_good w kind.Version at p f = f.0 (head_text w.number w.power w.reach ++ (10 ∷ lists_text words (lists_of w))) refl
text_is_good w kind.Head at p f =
    f.0.none w.number w.power w.reach (lists_text words (lists_of w)) p.head
    (append_cancel_left version_text f.0.later (head_text w.number w.power w.reach ++ (10 ∷ lists_text words (lists_of w))) (sym f.0.parts))
text_is_good w kind.List at p f =
    let b = f.2 in
    let rest : f.0 ≡ lists_text words (lists_of w) = after_head (weights_text w) f.0 (lists_text words (lists_of w)) f.1 w.number w.power w.reach p.head refl in
    let four : 4 ≤ length b.lists = no_more words b.lists (lists_of w) f.0 b.left [] b.short (short_lists w p) (omega arith) b.none b.parts (rest ∙ sym (append-nil (lists_text words (lists_of w)))) in
    omega (arith, four, b.few)
text_is_good w kind.After at p f =
    let b = f.2 in
    let rest : f.0 ≡ lists_text words (lists_of w) = after_head (weights_text w) f.0 (lists_text words (lists_of w)) f.1 w.number w.power w.reach p.head refl in
    let both = same_lists words b.lists (lists_of w) f.0 (b.byte ∷ b.later) [] b.short (short_lists w p) b.all (omega arith) b.parts (rest ∙ sym (append-nil (lists_text words (lists_of w)))) in
    let none : b.byte ∷ b.later ≡ [] = both.1 in cc

-- ---- the text of a certificate is of no other

abbrev make : ℕ → ℕ → ℕ → List ℕ → List ℕ → List ℕ → List ℕ → Weights
make number power reach places blocks slots kinds =
    record { number = number; power = power; reach = reach; places = places; blocks = blocks; slots = slots; kinds = kinds }

abbrev list_at : ℕ → List (List ℕ) → List ℕ
list_at i lists = get_or lists i []

pub same_weights : (w v : Weights) → IsShort w → IsShort v → weights_text w ≡ weights_text v → w ≡ v
same_weights w v p q h =
    let x = lists_text words (lists_of w) in let y = lists_text words (lists_of v) in
    let later = append_cancel_left version_text (head_text w.number w.power w.reach ++ (10 ∷ x)) (head_text v.number v.power v.reach ++ (10 ∷ y)) h in
    let heads = same_line (head_text w.number w.power w.reach) (head_text v.number v.power v.reach) x y
    (head-one_line w.number w.power w.reach p.head) (head-one_line v.number v.power v.reach q.head) later in
    let head = same_three (codes "number") (codes "power") (codes "reach") w.number w.power w.reach v.number v.power v.reach p.head q.head heads.0 in
    let lists = (same_lists words (lists_of w) (lists_of v) x [] [] (short_lists w p) (short_lists v q) refl (omega arith) (sym (append-nil x)) (heads.1 ∙ sym (append-nil y))).0 in
    ap (λ n. make n w.power w.reach w.places w.blocks w.slots w.kinds) head.0
    ∙ ap (λ n. make v.number n w.reach w.places w.blocks w.slots w.kinds) head.1
    ∙ ap (λ n. make v.number v.power n w.places w.blocks w.slots w.kinds) head.2
    ∙ ap (λ ls. make v.number v.power v.reach (list_at 0 ls) w.blocks w.slots w.kinds) lists
    ∙ ap (λ ls. make v.number v.power v.reach v.places (list_at 1 ls) w.slots w.kinds) lists
    ∙ ap (λ ls. make v.number v.power v.reach v.places v.blocks (list_at 2 ls) w.kinds) lists
    ∙ ap (λ ls. make v.number v.power v.reach v.places v.blocks v.slots (list_at 3 ls)) lists

-- what is read from the text of a certificate is this one, unless memory is wanting
pub reads_only : (bytes : List ℕ) (r : Result Weights WeightsRefusal) → IfOk r (λ w. IsShort w × (bytes ≡ weights_text w)) → IfErr r (RefusesText bytes)
    → (w : Weights) → IsShort w → bytes ≡ weights_text w → MatchResult r (λ found. found ≡ w) (λ refusal. refusal ≡ refused.NoMemory)
reads_only bytes (Ok found) ok err w short text = same_weights found w ok.0 short (sym ok.1 ∙ text)
reads_only bytes (Err (refused.Fault told)) ok err w short text = absurd (text_is_good w told.kind told.line short (subst (λ b. IsFaultAt b told.kind told.line) text err))
reads_only bytes (Err refused.NoMemory) ok err w short text = refl

-- ---- the first fault of a text

-- no line ends behind the first one
pub lacks_head : (bytes rest : List ℕ) → bytes ≡ version_text ++ rest → IsOneLine rest → HasNoHead bytes
lacks_head bytes rest e one = record {
  later = rest;
  parts = e;
  none = λ n p r later short h. no_end_in (head_text n p r) later (subst IsOneLine h one);
}

-- the second line is another one
pub other_head : (bytes rest line later : List ℕ) → bytes ≡ version_text ++ rest → IsOneLine line → rest ≡ line ++ (10 ∷ later)
    → ((n p r : ℕ) → AreShort (n ∷ p ∷ r ∷ []) → line ≢ head_text n p r) → HasNoHead bytes
other_head bytes rest line later e one parts none = record {
  later = rest;
  parts = e;
  none = λ n p r more short h. none n p r short (same_line line (head_text n p r) later more one (head-one_line n p r short) (sym parts ∙ h)).0;
}

-- the first two lines are there
pub is_after_head : (bytes rest line later : List ℕ) (n p r : ℕ) → bytes ≡ version_text ++ rest → rest ≡ line ++ (10 ∷ later) → AreShort (n ∷ p ∷ r ∷ []) → line ≡ head_text n p r
    → IsAfterHead bytes later
is_after_head bytes rest line later n p r e parts short text = record {
  number = n;
  power = p;
  reach = r;
  short = short;
  parts = e ∙ ap (λ xs. version_text ++ xs) (parts ∙ ap (λ xs. xs ++ (10 ∷ later)) text);
}

-- a refusal of what follows them
pub refused_text : (bytes later : List ℕ) → IsAfterHead bytes later → (refusal : WeightsRefusal) → RefusesLists later refusal → RefusesText bytes refusal
refused_text bytes later head refused.NoMemory h = tt
refused_text bytes later head (refused.Fault told) h = at told.kind told.line h
  where
    at : (k : WeightsKind) (n : ℕ) → IsListsFault later k n → IsFaultAt bytes k n
    at kind.TooLong n f = f
    at kind.Version n f = absurd f
    at kind.Head n f = absurd f
    at kind.List n f = (later, head, f)
    at kind.After n f = (later, head, f)
