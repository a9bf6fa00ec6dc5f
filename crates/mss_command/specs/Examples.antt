-- Words that are numbers, and words that are none.
use Rattle.std.specs.Prelude.{◌≡◌, [], Some, None, codes}
use Rattle.std.proofs.Common.{refl}
use Rattle.mss_command.specs.Numbers.{number_of_word}

zero-alone : number_of_word (codes "0") ≡ Some 0
zero-alone = refl

greatest : number_of_word (codes "18446744073709551615") ≡ Some 18446744073709551615
greatest = refl

too-great : number_of_word (codes "18446744073709551616") ≡ None
too-great = refl

leading-zero : number_of_word (codes "01") ≡ None
leading-zero = refl

no-digits : number_of_word [] ≡ None
no-digits = refl

other-sign : number_of_word (codes "+1") ≡ None
other-sign = refl
