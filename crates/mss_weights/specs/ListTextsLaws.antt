-- The lines of the lists: what stands at the front is of one list.
use Rattle.std.proofs.Common.{◌≡◌, ℕ, ◌≤◌, List, [], ◌∷◌, ◌++◌, length, get_or, refl, sym, ◌∙◌, ap, arith, append_assoc}
use Rattle.std.specs.List.{AllByRecursion}
use Rattle.std.proofs.lemmas.List.{append_cancel_left}
use Rattle.mss_lines.specs.Fields.{fields, AreShort}
use Rattle.mss_lines.specs.OneLineLaws.{fields-one_line, same_line}
use Rattle.mss_lines.specs.SpacedNumbersLaws.{same_numbers}
use Rattle.mss_weights.specs.WeightsFaults.{IsList, IsWithoutList}
use Rattle.mss_weights.specs.WeightsText.{lists_text}

-- a word has one list
pub same_list : (word bytes m n x y : List ℕ) → IsList word bytes m x → IsList word bytes n y → (m ≡ n) × (x ≡ y)
same_list word bytes m n x y p q =
    let tails = append_cancel_left word (fields m ++ (10 ∷ x)) (fields n ++ (10 ∷ y)) (sym p.parts ∙ q.parts) in
    let lines = same_line (fields m) (fields n) x y (fields-one_line m p.short) (fields-one_line n q.short) tails in
    (same_numbers m n p.short q.short lines.0, lines.1)

-- lists and what follows them, one list apart
pub lists-onto : (word numbers : List ℕ) (words lists : List (List ℕ)) (rest : List ℕ)
    → lists_text (word ∷ words) (numbers ∷ lists) ++ rest ≡ word ++ (fields numbers ++ (10 ∷ (lists_text words lists ++ rest)))
lists-onto word numbers words lists rest =
    append_assoc word (fields numbers ++ (10 ∷ lists_text words lists)) rest
    ∙ ap (λ xs. word ++ xs) (append_assoc (fields numbers) (10 ∷ lists_text words lists) rest)

-- the first of the lists
pub first_list : (word numbers : List ℕ) (words lists : List (List ℕ)) (bytes rest : List ℕ) → AreShort numbers
    → bytes ≡ lists_text (word ∷ words) (numbers ∷ lists) ++ rest → IsList word bytes numbers (lists_text words lists ++ rest)
first_list word numbers words lists bytes rest short e = record { short = short; parts = e ∙ lists-onto word numbers words lists rest }

-- where the line after some lists isn't that of the next word, there are no more lists
pub no_more : (words lists others : List (List ℕ)) (bytes x y : List ℕ) → AllByRecursion AreShort lists → AllByRecursion AreShort others
    → length others ≤ length words → IsWithoutList (get_or words (length lists) []) x → bytes ≡ lists_text words lists ++ x → bytes ≡ lists_text words others ++ y
    → length others ≤ length lists
no_more words lists [] bytes x y p q few none e f = omega arith
no_more [] lists (n ∷ others) bytes x y p q few none e f = absurd (omega (arith, few))
no_more (word ∷ words) [] (n ∷ others) bytes x y p q few none e f =
    absurd (none n (lists_text words others ++ y) (first_list word n words others x y q.0 (sym e ∙ f)))
no_more (word ∷ words) (m ∷ lists) (n ∷ others) bytes x y p q few none e f =
    let both = same_list word bytes m n (lists_text words lists ++ x) (lists_text words others ++ y) (first_list word m words lists bytes x p.0 e) (first_list word n words others bytes y q.0 f) in
    let later = no_more words lists others (lists_text words lists ++ x) x y p.1 q.1 (omega (arith, few)) none refl both.1 in
    omega (arith, later)

-- as many lists are the same
pub same_lists : (words lists others : List (List ℕ)) (bytes x y : List ℕ) → AllByRecursion AreShort lists → AllByRecursion AreShort others
    → length lists ≡ length others → length others ≤ length words → bytes ≡ lists_text words lists ++ x → bytes ≡ lists_text words others ++ y → (lists ≡ others) × (x ≡ y)
same_lists [] [] [] bytes x y p q same few e f = (refl, sym e ∙ f)
same_lists (word ∷ words) [] [] bytes x y p q same few e f = (refl, sym e ∙ f)
same_lists words [] (n ∷ others) bytes x y p q same few e f = absurd (omega (arith, same))
same_lists words (m ∷ lists) [] bytes x y p q same few e f = absurd (omega (arith, same))
same_lists [] (m ∷ lists) (n ∷ others) bytes x y p q same few e f = absurd (omega (arith, few))
same_lists (word ∷ words) (m ∷ lists) (n ∷ others) bytes x y p q same few e f =
    let both = same_list word bytes m n (lists_text words lists ++ x) (lists_text words others ++ y) (first_list word m words lists bytes x p.0 e) (first_list word n words others bytes y q.0 f) in
    let later = same_lists words lists others (lists_text words lists ++ x) x y p.1 q.1 (omega (arith, same)) (omega (arith, few)) refl both.1 in
    let all : m ∷ lists ≡ n ∷ others = cc (both.0, later.0) in (all, later.1)
