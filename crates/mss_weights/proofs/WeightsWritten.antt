-- A certificate of weights as it is written, and how long its text is.
use Rattle.std.proofs.Common.{◌≡◌, ℕ, ◌+◌, ◌*◌, ◌<◌, ◌≤◌, List, [], ◌∷◌, ◌++◌, length, get_or, take, codes, refl, sym, ◌∙◌, ap, arith, append_assoc, decimal, length-append}
use Rattle.std.proofs.lemmas.List.{append-nil, take_more}
use Rattle.mss_lines.specs.Fields.{fields, AreShort}
use Rattle.mss_lines.specs.FieldSizesLaws.{fields-long}
use Rattle.mss_weights.proofs.LabelledSizes.{three-long}
use Rattle.mss_lines.specs.SpacedNumbersLaws.{fields-more}
use Rattle.mss_weights.specs.declared.weights.Weights.{Weights}
use Rattle.mss_weights.specs.WeightsText.{IsShort, head_text, lists_of, lists_text, price_count, version_text, weights_text, words}
use Rattle.mss_weights.proofs.ListsTaken.{one_written}

-- one number more
pub number_written : (old text new word ns : List ℕ) (i n : ℕ) → i < length ns → n ≡ get_or ns i 0 → text ≡ old ++ (word ++ fields (take i ns))
    → new ≡ text ++ (32 ∷ decimal n) → new ≡ old ++ (word ++ fields (take (i + 1) ns))
number_written old text new word ns i n within is so_far e =
    let one : fields (take i ns) ++ (32 ∷ decimal n) ≡ fields (take (i + 1) ns) =
    ap (λ x. fields (take i ns) ++ (32 ∷ x)) (sym (append-nil (decimal n))) ∙ sym (fields-more (take i ns) n []) ∙ append-nil (fields (take i ns ++ n ∷ []))
    ∙ ap (λ m. fields (take i ns ++ m ∷ [])) is ∙ ap fields (sym (take_more ns i 0 within)) in
    e ∙ ap (λ x. x ++ (32 ∷ decimal n)) so_far ∙ append_assoc old (word ++ fields (take i ns)) (32 ∷ decimal n)
    ∙ ap (λ x. old ++ x) (append_assoc word (fields (take i ns)) (32 ∷ decimal n) ∙ ap (λ x. word ++ x) one)

-- the line end
pub line_written : (old text new word ns : List ℕ) → text ≡ old ++ (word ++ fields ns) → new ≡ text ++ 10 ∷ [] → new ≡ old ++ (word ++ (fields ns ++ 10 ∷ []))
line_written old text new word ns so_far e =
    e ∙ ap (λ x. x ++ 10 ∷ []) so_far ∙ append_assoc old (word ++ fields ns) (10 ∷ []) ∙ ap (λ x. old ++ x) (append_assoc word (fields ns) (10 ∷ []))

-- the text so far after the first two lines, and after each list
pub record AreWritten (w : Weights) (start one two three four : List ℕ) : Type 0 where
  pub head : start ≡ version_text ++ (head_text w.number w.power w.reach ++ 10 ∷ [])
  pub places : one ≡ start ++ (codes "places" ++ (fields w.places ++ 10 ∷ []))
  pub blocks : two ≡ one ++ (codes "blocks" ++ (fields w.blocks ++ 10 ∷ []))
  pub slots : three ≡ two ++ (codes "slots" ++ (fields w.slots ++ 10 ∷ []))
  pub kinds : four ≡ three ++ (codes "kinds" ++ (fields w.kinds ++ 10 ∷ []))

pub all_written : (w : Weights) (start one two three four : List ℕ) → AreWritten w start one two three four → four ≡ weights_text w
all_written w start one two three four a =
    let p = one_written start start one (codes "places") w.places [] (sym (append-nil start)) (omega arith) refl a.places in
    let b = one_written start one two (codes "blocks") w.blocks (w.places ∷ []) p (omega arith) refl a.blocks in
    let s = one_written start two three (codes "slots") w.slots (w.places ∷ w.blocks ∷ []) b (omega arith) refl a.slots in
    let k = one_written start three four (codes "kinds") w.kinds (w.places ∷ w.blocks ∷ w.slots ∷ []) s (omega arith) refl a.kinds in
    let lists = lists_text words (lists_of w) in
    k ∙ ap (λ x. x ++ lists) a.head ∙ append_assoc version_text (head_text w.number w.power w.reach ++ 10 ∷ []) lists
    ∙ ap (λ x. version_text ++ x) (append_assoc (head_text w.number w.power w.reach) (10 ∷ []) lists)

-- ---- how long it is

list-long : (word numbers rest : List ℕ) → AreShort numbers → length (word ++ (fields numbers ++ (10 ∷ rest))) ≤ length word + 10 * length numbers + 1 + length rest
list-long word numbers rest short =
    omega (arith, fields-long numbers short, length-append word (fields numbers ++ (10 ∷ rest)), length-append (fields numbers) (10 ∷ rest))

lists-long : (w : Weights) → IsShort w → length (lists_text words (lists_of w)) ≤ 10 * price_count w + 26
lists-long w h =
    let kinds = codes "kinds" ++ (fields w.kinds ++ (10 ∷ [])) in
    let slots = codes "slots" ++ (fields w.slots ++ (10 ∷ kinds)) in
    let blocks = codes "blocks" ++ (fields w.blocks ++ (10 ∷ slots)) in
    omega (
      arith,
      list-long (codes "places") w.places blocks h.places,
      list-long (codes "blocks") w.blocks slots h.blocks,
      list-long (codes "slots") w.slots kinds h.slots,
      list-long (codes "kinds") w.kinds [] h.kinds,
    )

-- a certificate of short numbers has at most 10 bytes for each price, and 100 beside
pub weights-long : (w : Weights) → IsShort w → length (weights_text w) ≤ 10 * price_count w + 100
weights-long w h =
    omega (
      arith,
      lists-long w h,
      three-long (codes "number") (codes "power") (codes "reach") w.number w.power w.reach h.head,
      length-append (head_text w.number w.power w.reach) (10 ∷ lists_text words (lists_of w)),
    )
