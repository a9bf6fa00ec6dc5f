-- Numbers among the words of the command line.
use Rattle.std.specs.Prelude.{ℕ, ◌^◌, ◌==◌, ◌&&◌, not, nat_lt, Bool, false, List, [], ◌∷◌, Option, Some, None, if◌then◌else◌}
use Rattle.std.specs.Char.{is_ascii_digit}
use Rattle.std.specs.Str.{all_ascii_digits}
use Rattle.std.specs.Str.Parse.{digits_value}

-- it begins with a digit, and with no zero before another byte
abbrev pub is_plain : List ℕ → Bool
is_plain [] = false
is_plain (byte ∷ []) = is_ascii_digit byte
is_plain (byte ∷ next ∷ rest) = is_ascii_digit byte && not (byte == 48)

-- a number where it is below 2^64
abbrev pub below_limit : ℕ → Option ℕ
below_limit number = if nat_lt number (2 ^ 64) then Some number else None

-- the number that a word writes: digits alone, without a leading zero
abbrev pub number_of_word : List ℕ → Option ℕ
number_of_word word = if is_plain word && all_ascii_digits word then below_limit (digits_value 10 word) else None
