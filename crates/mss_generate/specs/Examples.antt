-- Words after `generate`.
use Rattle.std.specs.Prelude.{◌≡◌, Some, None, codes}
use Rattle.std.proofs.Common.{refl}
use Rattle.mss_gen.specs.declared.size.Size.TheVariants.{Large}
use Rattle.mss_generate.specs.Words.{generate_in}

one-large : generate_in (codes "7") (codes "large") ≡ Some (record { number = 7; size = Large })
one-large = refl

leading-zero : generate_in (codes "07") (codes "large") ≡ None
leading-zero = refl
