-- How long numbers are in a text.
use Rattle.std.proofs.Common.{ℕ, ◌*◌, ◌^◌, ◌<◌, ◌≤◌, List, [], ◌∷◌, length, arith, decimal, length-append}
use Rattle.std.proofs.lemmas.Fmt.{length-decimal-le}
use Rattle.mss_lines.specs.Fields.{fields, AreShort}

pub nine_digits : (n : ℕ) → n < 10 ^ 9 → length (decimal n) ≤ 9
nine_digits n short = length-decimal-le 9 n (omega arith) short (omega arith)

pub fields-long : (ns : List ℕ) → AreShort ns → length (fields ns) ≤ 10 * length ns
fields-long [] h = omega arith
fields-long (n ∷ ns) h = omega (arith, nine_digits n h.0, fields-long ns h.1, length-append (decimal n) (fields ns))
