-- A line of a word and numbers, as it is found.
use Rattle.std.proofs.Common.{◌≡◌, ◌≢◌, ℕ, List, ◌∷◌, ◌++◌, sym, ◌∙◌, ap, subst, append_assoc}
use Rattle.mss_lines.specs.Fields.{fields, AreShort}
use Rattle.mss_lines.specs.Lines.{IsOneLine}
use Rattle.mss_lines.specs.OneLineLaws.{one_line-append, fields-one_line, no_end_in, same_line}
use Rattle.std.proofs.lemmas.List.{append_cancel_left}
use Rattle.mss_weights.specs.WeightsFaults.{IsList, IsWithoutList}

-- the line and what follows it
whole : (word numbers rest : List ℕ) → word ++ (fields numbers ++ (10 ∷ rest)) ≡ (word ++ fields numbers) ++ (10 ∷ rest)
whole word numbers rest = sym (append_assoc word (fields numbers) (10 ∷ rest))

-- no line ends
pub no_line : (word bytes : List ℕ) → IsOneLine bytes → IsWithoutList word bytes
no_line word bytes one numbers rest found = no_end_in (word ++ fields numbers) rest (subst IsOneLine (found.parts ∙ whole word numbers rest) one)

-- what the first line is, where it is one of the word
same_words : (word bytes line rest numbers later : List ℕ) → IsOneLine word → IsOneLine line → bytes ≡ line ++ (10 ∷ rest) → IsList word bytes numbers later → line ≡ word ++ fields numbers
same_words word bytes line rest numbers later w one parts found =
    (same_line line (word ++ fields numbers) rest later one (one_line-append word (fields numbers) w (fields-one_line numbers found.short))
    (sym parts ∙ found.parts ∙ whole word numbers later)).0

-- the first line begins with another word
pub no_word : (word bytes line rest : List ℕ) → IsOneLine word → IsOneLine line → bytes ≡ line ++ (10 ∷ rest) → ((later : List ℕ) → line ≢ word ++ later) → IsWithoutList word bytes
no_word word bytes line rest w one parts none numbers later found = none (fields numbers) (same_words word bytes line rest numbers later w one parts found)

-- no numbers follow the word
pub no_numbers : (word bytes line rest spelled : List ℕ) → IsOneLine word → IsOneLine line → bytes ≡ line ++ (10 ∷ rest) → line ≡ word ++ spelled
    → ((numbers : List ℕ) → AreShort numbers → spelled ≢ fields numbers) → IsWithoutList word bytes
no_numbers word bytes line rest spelled w one parts e none numbers later found =
    none numbers found.short
    (append_cancel_left word spelled (fields numbers) (sym e ∙ same_words word bytes line rest numbers later w one parts found))

-- the line is found
pub found_list : (word bytes line rest spelled numbers : List ℕ) → bytes ≡ line ++ (10 ∷ rest) → line ≡ word ++ spelled → AreShort numbers → spelled ≡ fields numbers
    → IsList word bytes numbers rest
found_list word bytes line rest spelled numbers parts e short f = record {
  short = short;
  parts = parts ∙ ap (λ xs. xs ++ (10 ∷ rest)) (e ∙ ap (λ xs. word ++ xs) f) ∙ sym (whole word numbers rest);
}
