-- The number that is read of a word is the one that it writes.
use Rattle.std.proofs.Common.{◌≡◌, ◌<◌, ◌≢◌, ◌^◌, ℕ, Bool, true, false, List, [], ◌∷◌, length, get_or, Result, Ok, Err, Some, None, nat_lt, refl, arith, ap}
use Rattle.std.specs.Prelude.{if◌then◌else◌}
use Rattle.std.specs.Result.{result_ok, OkIff}
use Rattle.std.specs.Str.{all_ascii_digits}
use Rattle.std.specs.Str.Parse.{ParsesUnsigned, digits_value}
use Rattle.std.proofs.lemmas.Bool.Decides.{nat_tests}
use Rattle.std.proofs.lemmas.Str.Parse.{numerals_by_value, parse_plain, tells_all_ascii_digits}
use Rattle.mss_command.specs.Numbers.{is_plain, number_of_word}

-- a word that begins with a digit begins with no plus sign, and isn't empty
no-plus : (word : List ℕ) → is_plain word ≡ true → get_or word 0 0 ≢ 43
no-plus [] plain = cc plain
no-plus (byte ∷ []) plain = λ e. cc (rw e at plain)
no-plus (byte ∷ next ∷ rest) plain = λ e. cc (rw e at plain)

not-empty : (word : List ℕ) → is_plain word ≡ true → 0 < length word
not-empty [] plain = cc plain
not-empty (byte ∷ rest) plain = omega arith

ne-true : (b : Bool) → b ≡ false → b ≡ true → ⊥
ne-true b n y = cc (rw n at y)

module _ {E : Type 0} where
  answer : (word : List ℕ) (r : Result ℕ E) (digits small : Bool) → all_ascii_digits word ≡ digits → nat_lt (digits_value 10 word) (2 ^ 64) ≡ small → 0 < length word
      → OkIff r ((all_ascii_digits word ≡ true) × (0 < length word) × (digits_value 10 word < 2 ^ 64)) (digits_value 10 word)
      → result_ok r ≡ (if digits then (if small then Some (digits_value 10 word) else None) else None)
  answer word (Ok n) true true d s some h = ap Some h.1
  answer word (Ok n) true false d s some h = let small = h.0.2 in absurd (ne-true _ s (grind (arith, nat_tests)))
  answer word (Ok n) false small d s some h = absurd (ne-true _ d h.0.0)
  answer word (Err e) true true d s some h = absurd (h (d, some, grind (arith, nat_tests)))
  answer word (Err e) true false d s some h = refl
  answer word (Err e) false small d s some h = refl

  pub read_number : (word : List ℕ) (r : Result ℕ E) → is_plain word ≡ true → ParsesUnsigned 64 10 word r → result_ok r ≡ number_of_word word
  read_number word r plain h =
      rw plain (answer word r (all_ascii_digits word) (nat_lt (digits_value 10 word) (2 ^ 64)) refl refl (not-empty word plain)
      (parse_plain (numerals_by_value (λ ds. all_ascii_digits ds ≡ true) tells_all_ascii_digits) 64 word r h (no-plus word plain)))

pub not_plain : (word : List ℕ) → is_plain word ≡ false → None ≡ number_of_word word
not_plain word other = rw other refl
