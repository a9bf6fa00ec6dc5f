-- The text of a certificate of weights.
use Rattle.std.specs.Prelude.{ℕ, ◌+◌, List, [], ◌∷◌, ◌++◌, length, codes}
use Rattle.mss_lines.specs.Fields.{fields, AreShort}
use Rattle.mss_weights.specs.Labelled.{three_labelled}
use Rattle.mss_weights.specs.declared.weights.Weights.{Weights}

-- the first line, with its line end
abbrev pub version_text : List ℕ
version_text = codes "mss weights 1" ++ (10 ∷ [])

-- the second line
abbrev pub head_text : ℕ → ℕ → ℕ → List ℕ
head_text number power reach = three_labelled (codes "number") number (codes "power") power (codes "reach") reach

-- the words before the lists of prices, line by line
abbrev pub words : List (List ℕ)
words = codes "places" ∷ codes "blocks" ∷ codes "slots" ∷ codes "kinds" ∷ []

-- a line for each word and list
abbrev pub lists_text : List (List ℕ) → List (List ℕ) → List ℕ
lists_text (word ∷ later) (numbers ∷ lists) = word ++ (fields numbers ++ (10 ∷ lists_text later lists))
lists_text (word ∷ later) [] = []
lists_text [] lists = []

-- the lists of prices
abbrev pub lists_of : Weights → List (List ℕ)
lists_of w = w.places ∷ w.blocks ∷ w.slots ∷ w.kinds ∷ []

-- the text of a certificate: each line ends in a line end
abbrev pub weights_text : Weights → List ℕ
weights_text w = version_text ++ (head_text w.number w.power w.reach ++ (10 ∷ lists_text words (lists_of w)))

-- each number of the certificate has at most nine digits
pub record IsShort (w : Weights) : Type 0 where
  pub head : AreShort (w.number ∷ w.power ∷ w.reach ∷ [])
  pub places : AreShort w.places
  pub blocks : AreShort w.blocks
  pub slots : AreShort w.slots
  pub kinds : AreShort w.kinds

-- how many prices there are
abbrev pub price_count : Weights → ℕ
price_count w = length w.places + length w.blocks + length w.slots + length w.kinds
