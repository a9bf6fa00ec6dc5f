-- What no line of three words with their numbers is.
use Rattle.std.proofs.Common.{◌≡◌, ◌≢◌, ℕ, ◌<◌, List, [], ◌∷◌, ap, length, arith}
use Rattle.mss_lines.specs.Fields.{AreShort}
use Rattle.mss_weights.specs.Labelled.{labelled, three_labelled, IsLabelled, IsWithoutLabelled}
use Rattle.mss_weights.specs.LabelledNumbersLaws.{two_labelled, first_of, second_of, third_of, same_labelled, behind}

-- no three words are the line
abbrev pub IsNone : List ℕ → List ℕ → List ℕ → List ℕ → Type 0
IsNone line first second third = (a b c : ℕ) → AreShort (a ∷ b ∷ c ∷ []) → line ≢ three_labelled first a second b third c

pub without_first : (line first second third : List ℕ) → IsWithoutLabelled first line → IsNone line first second third
without_first line first second third none a b c short h = none a _ (first_of line first second third a b c short.0 h)

-- what follows the first word and its number
rest_of_first : (line first second third rest : List ℕ) (n a b c : ℕ) → IsLabelled first line n rest → AreShort (a ∷ b ∷ c ∷ [])
    → line ≡ three_labelled first a second b third c → rest ≡ 32 ∷ two_labelled second b third c
rest_of_first line first second third rest n a b c found short h =
    (same_labelled first line rest (32 ∷ two_labelled second b third c) n a found (first_of line first second third a b c short.0 h)).1

pub without_space : (line first second third rest : List ℕ) (n : ℕ) → IsLabelled first line n rest → ((later : List ℕ) → rest ≢ 32 ∷ later) → IsNone line first second third
without_space line first second third rest n found none a b c short h = none _ (rest_of_first line first second third rest n a b c found short h)

-- the first word with its number and a space, and then these bytes
pub record IsBehindFirst (line first bytes : List ℕ) : Type 0 where
  pub number : ℕ
  pub rest : List ℕ
  pub found : IsLabelled first line number rest
  pub spaced : rest ≡ 32 ∷ bytes

on_second : (line first second third bytes : List ℕ) (a b c : ℕ) → IsBehindFirst line first bytes → AreShort (a ∷ b ∷ c ∷ [])
    → line ≡ three_labelled first a second b third c → IsLabelled second bytes b (32 ∷ labelled third c [])
on_second line first second third bytes a b c front short h =
    second_of bytes second third b c short.1.0
    (behind front.rest bytes (two_labelled second b third c) front.spaced (rest_of_first line first second third front.rest front.number a b c front.found short h))

pub without_second : (line first second third bytes : List ℕ) → IsBehindFirst line first bytes → IsWithoutLabelled second bytes → IsNone line first second third
without_second line first second third bytes front none a b c short h = none b _ (on_second line first second third bytes a b c front short h)

rest_of_second : (line first second third bytes rest : List ℕ) (n a b c : ℕ) → IsBehindFirst line first bytes → IsLabelled second bytes n rest → AreShort (a ∷ b ∷ c ∷ [])
    → line ≡ three_labelled first a second b third c → rest ≡ 32 ∷ labelled third c []
rest_of_second line first second third bytes rest n a b c front found short h =
    (same_labelled second bytes rest (32 ∷ labelled third c []) n b found (on_second line first second third bytes a b c front short h)).1

pub without_space_again : (line first second third bytes rest : List ℕ) (n : ℕ) → IsBehindFirst line first bytes → IsLabelled second bytes n rest
    → ((later : List ℕ) → rest ≢ 32 ∷ later) → IsNone line first second third
without_space_again line first second third bytes rest n front found none a b c short h =
    none _ (rest_of_second line first second third bytes rest n a b c front found short h)

-- the second word likewise
pub record IsBehindSecond (line first second bytes : List ℕ) : Type 0 where
  pub before : List ℕ
  pub front : IsBehindFirst line first before
  pub number : ℕ
  pub rest : List ℕ
  pub found : IsLabelled second before number rest
  pub spaced : rest ≡ 32 ∷ bytes

on_third : (line first second third bytes : List ℕ) (a b c : ℕ) → IsBehindSecond line first second bytes → AreShort (a ∷ b ∷ c ∷ [])
    → line ≡ three_labelled first a second b third c → IsLabelled third bytes c []
on_third line first second third bytes a b c front short h =
    third_of bytes third c short.1.1.0
    (behind front.rest bytes (labelled third c []) front.spaced (rest_of_second line first second third front.before front.rest front.number a b c front.front front.found short h))

pub without_third : (line first second third bytes : List ℕ) → IsBehindSecond line first second bytes → IsWithoutLabelled third bytes → IsNone line first second third
without_third line first second third bytes front none a b c short h = none c _ (on_third line first second third bytes a b c front short h)

pub goes_on : (line first second third bytes rest : List ℕ) (n : ℕ) → IsBehindSecond line first second bytes → IsLabelled third bytes n rest → 0 < length rest
    → IsNone line first second third
goes_on line first second third bytes rest n front found some a b c short h =
    let end = (same_labelled third bytes rest [] n c found (on_third line first second third bytes a b c front short h)).1 in
    omega (arith, ap length end)
