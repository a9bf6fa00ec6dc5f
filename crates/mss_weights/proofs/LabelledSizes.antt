-- How long a line of three words and their numbers is.
use Rattle.std.proofs.Common.{ℕ, ◌+◌, ◌≤◌, List, [], ◌∷◌, ◌++◌, length, arith, decimal, length-append}
use Rattle.mss_lines.specs.Fields.{AreShort}
use Rattle.mss_lines.specs.FieldSizesLaws.{nine_digits}
use Rattle.mss_weights.specs.Labelled.{labelled, three_labelled}
use Rattle.mss_weights.specs.LabelledNumbersLaws.{two_labelled}

pub three-long : (first second third : List ℕ) (a b c : ℕ) → AreShort (a ∷ b ∷ c ∷ [])
    → length (three_labelled first a second b third c) ≤ length first + length second + length third + 32
three-long first second third a b c h =
    omega (
      arith,
      nine_digits a h.0,
      nine_digits b h.1.0,
      nine_digits c h.1.1.0,
      length-append first (32 ∷ (decimal a ++ (32 ∷ two_labelled second b third c))),
      length-append (decimal a) (32 ∷ two_labelled second b third c),
      length-append second (32 ∷ (decimal b ++ (32 ∷ labelled third c []))),
      length-append (decimal b) (32 ∷ labelled third c []),
      length-append third (32 ∷ (decimal c ++ [])),
      length-append (decimal c) [],
    )
