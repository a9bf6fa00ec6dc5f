-- Lists that were read or written so far.
use Rattle.std.proofs.Common.{◌≡◌, ℕ, ◌+◌, ◌<◌, List, [], ◌∷◌, ◌++◌, length, get_or, refl, sym, ◌∙◌, ap, subst, arith, append_assoc}
use Rattle.std.specs.List.{AllByRecursion}
use Rattle.std.proofs.lemmas.List.{append-nil}
use Rattle.mss_lines.specs.Fields.{fields, AreShort}
use Rattle.mss_weights.specs.declared.faults.WeightsRefusal.{WeightsRefusal}
use Rattle.mss_weights.specs.declared.faults.WeightsRefusal.TheVariants as refused
use Rattle.mss_weights.specs.ListLines.{IsListsFault, RefusesList, RefusesLists}
use Rattle.mss_weights.specs.WeightsFaults.{IsList, HasBadList, GoesOn}
use Rattle.mss_weights.specs.WeightsText.{lists_text, words}
use Rattle.mss_weights.specs.ListTextsLaws.{lists-onto}

-- one list more
pub list-more : (words lists : List (List ℕ)) (word numbers rest left : List ℕ) → length lists < length words → word ≡ get_or words (length lists) []
    → left ≡ word ++ (fields numbers ++ (10 ∷ rest)) → lists_text words lists ++ left ≡ lists_text words (lists ++ numbers ∷ []) ++ rest
list-more [] lists word numbers rest left few w e = absurd (omega (arith, few))
list-more (v ∷ words) [] word numbers rest left few w e =
    e ∙ ap (λ x. x ++ (fields numbers ++ (10 ∷ rest))) w ∙ ap (λ x. v ++ (fields numbers ++ (10 ∷ x))) (sym (none words)) ∙ sym (lists-onto v numbers words [] rest)
  where
    none : (ws : List (List ℕ)) → lists_text ws [] ++ rest ≡ rest
    none [] = refl
    none (u ∷ ws) = refl
list-more (v ∷ words) (n ∷ lists) word numbers rest left few w e =
    lists-onto v n words lists left ∙ ap (λ x. v ++ (fields n ++ (10 ∷ x))) (list-more words lists word numbers rest left (omega (arith, few)) w e)
    ∙ sym (lists-onto v n words (lists ++ numbers ∷ []) rest)

short-more : (lists : List (List ℕ)) (numbers : List ℕ) → AllByRecursion AreShort lists → AreShort numbers → AllByRecursion AreShort (lists ++ numbers ∷ [])
short-more [] numbers p q = (q, tt)
short-more (n ∷ lists) numbers p q = (p.0, short-more lists numbers p.1 q)

-- ---- reading

-- the lines of these lists stand at the front, and then these bytes
pub record IsTaken (bytes : List ℕ) (lists : List (List ℕ)) (left : List ℕ) : Type 0 where
  pub short : AllByRecursion AreShort lists
  pub parts : bytes ≡ lists_text words lists ++ left

pub none_taken : (bytes : List ℕ) → IsTaken bytes [] bytes
none_taken bytes = record { short = tt; parts = refl }

pub one_taken : (bytes left rest word numbers : List ℕ) (lists : List (List ℕ)) → IsTaken bytes lists left → length lists < 4 → word ≡ get_or words (length lists) []
    → IsList word left numbers rest → IsTaken bytes (lists ++ numbers ∷ []) rest
one_taken bytes left rest word numbers lists so_far few w more = record {
  short = short-more lists numbers so_far.short more.short;
  parts = so_far.parts ∙ list-more words lists word numbers rest left few w more.parts;
}

-- the line of the next list is refused
pub refused_list : (bytes left word : List ℕ) (lists : List (List ℕ)) (line : ℕ) (refusal : WeightsRefusal) → IsTaken bytes lists left → length lists < 4
    → word ≡ get_or words (length lists) [] → line ≡ 3 + length lists → RefusesList word left line refusal → RefusesLists bytes refusal
refused_list bytes left word lists line refused.NoMemory so_far few w at h = tt
refused_list bytes left word lists line (refused.Fault told) so_far few w at h =
    subst (λ k. IsListsFault bytes k told.line) (sym h.1)
    (let bad : HasBadList bytes told.line = record {
      lists = lists;
      short = so_far.short;
      few = few;
      left = left;
      none = subst (λ v. (numbers rest : List ℕ) → IsList v left numbers rest → ⊥) w h.0;
      parts = so_far.parts;
      numbered = h.2 ∙ at;
    } in bad)

-- a byte follows all lists
pub goes_on : (bytes left : List ℕ) (lists : List (List ℕ)) → IsTaken bytes lists left → length lists ≡ 4 → 0 < length left → GoesOn bytes 7
goes_on bytes [] lists so_far all some = absurd (omega arith)
goes_on bytes (byte ∷ later) lists so_far all some = record {
  lists = lists;
  short = so_far.short;
  all = all;
  byte = byte;
  later = later;
  parts = so_far.parts;
  numbered = refl;
}

-- nothing follows them
pub all_taken : (bytes left : List ℕ) (lists : List (List ℕ)) → IsTaken bytes lists left → length left ≡ 0 → bytes ≡ lists_text words lists
all_taken bytes [] lists so_far none = so_far.parts ∙ append-nil (lists_text words lists)
all_taken bytes (byte ∷ later) lists so_far none = absurd (omega (arith, none))

-- ---- writing

-- a text and the lines of these lists
pub one_written : (head text new word numbers : List ℕ) (lists : List (List ℕ)) → text ≡ head ++ lists_text words lists → length lists < 4 → word ≡ get_or words (length lists) []
    → new ≡ text ++ (word ++ (fields numbers ++ 10 ∷ [])) → new ≡ head ++ lists_text words (lists ++ numbers ∷ [])
one_written head text new word numbers lists so_far few w e =
    e ∙ ap (λ x. x ++ (word ++ (fields numbers ++ 10 ∷ []))) so_far ∙ append_assoc head (lists_text words lists) (word ++ (fields numbers ++ 10 ∷ []))
    ∙ ap (λ x. head ++ x) (list-more words lists word numbers [] (word ++ (fields numbers ++ 10 ∷ [])) few w refl ∙ append-nil (lists_text words (lists ++ numbers ∷ [])))
