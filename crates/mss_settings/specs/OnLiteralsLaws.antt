-- What an answer unfolds to compute the settings that a known text gives.
use Rattle.std.specs.Prelude.{⊤}
use Rattle.std.specs.Str.{chars, is_utf8}
use Rattle.toml.proofs.OnLiterals.{toml_on_literals}
use Rattle.mss_settings.specs.Faults.{has_twice, keys_fault, values_fault, version_fault}
use Rattle.mss_settings.specs.Table.{has_key, has_known_keys, integer_at, is_known_key, items_at, listed, number_at}

unfoldable pub settings_on_literals : ⊤
unfolding chars is_utf8 toml_on_literals has_twice keys_fault version_fault values_fault has_key has_known_keys integer_at is_known_key items_at listed number_at
settings_on_literals = tt
