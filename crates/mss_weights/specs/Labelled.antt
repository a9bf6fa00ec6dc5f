-- A line of words, each followed by a number.
use Rattle.std.specs.Prelude.{◌≡◌, ℕ, ◌<◌, ◌^◌, List, [], ◌∷◌, ◌++◌, decimal}
use Rattle.mss_lines.specs.Fields.{EndsNumber}

-- a word, a number after a space, and what follows them
abbrev pub labelled : List ℕ → ℕ → List ℕ → List ℕ
labelled word number rest = word ++ (32 ∷ (decimal number ++ rest))

-- three words with their numbers, with a space between
abbrev pub three_labelled : List ℕ → ℕ → List ℕ → ℕ → List ℕ → ℕ → List ℕ
three_labelled first a second b third c = labelled first a (32 ∷ labelled second b (32 ∷ labelled third c []))

-- the word and a number of at most nine digits stand at the front, and then these bytes, which begin with no digit
pub record IsLabelled (word bytes : List ℕ) (number : ℕ) (rest : List ℕ) : Type 0 where
  pub short : number < 10 ^ 9
  pub ended : EndsNumber rest
  pub parts : bytes ≡ labelled word number rest

abbrev pub IsWithoutLabelled : List ℕ → List ℕ → Type 0
IsWithoutLabelled word bytes = (number : ℕ) (rest : List ℕ) → IsLabelled word bytes number rest → ⊥
