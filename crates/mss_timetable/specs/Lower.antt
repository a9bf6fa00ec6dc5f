-- The file that shows a lower number of all legal cycles.
use Rattle.std.specs.Prelude.{◌≡◌, ◌⊎◌, ℕ, ◌≤◌, List, [], length, IsTrue, codes}
use Rattle.mss_model.specs.declared.parts.TableParts.{TableParts}
use Rattle.mss_weights.specs.declared.weights.Weights.{Weights}
use Rattle.mss_weights.specs.Shown.{is_shown}
use Rattle.mss_weights.specs.WeightsText.{IsShort, weights_text}
use Rattle.mss_weights.specs.declared.weights.TheConstants.{MOST_WEIGHTS_BYTES}

abbrev pub weights_file : List ℕ
weights_file = codes "weights.txt"

-- the most bytes of weights.txt
abbrev pub weights_limit : ℕ
weights_limit = MOST_WEIGHTS_BYTES

-- the bytes are the text of weights that show this number under these tables
pub record ShowsNumber (tables : TableParts) (number : ℕ) (bytes : List ℕ) : Type 0 where
  pub weights : Weights
  pub short : IsShort weights
  pub text : bytes ≡ weights_text weights
  pub shown : IsTrue (is_shown tables weights)
  pub told : weights.number ≡ number

-- the number 0 has no bytes, and every other has a text that shows it and is within the limit of `check`
abbrev pub IsShownBy : TableParts → ℕ → List ℕ → Type 0
IsShownBy tables number bytes = ((number ≡ 0) × (bytes ≡ [])) ⊎ (ShowsNumber tables number bytes × (length bytes ≤ weights_limit))
