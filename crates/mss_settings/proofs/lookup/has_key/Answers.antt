-- A key that the table finds is one of its members.
use Rattle.std.proofs.Common.{◌∙◌}
use Rattle.toml.proofs.Views.{table_get}
use Rattle.mss_settings.specs.Table.{has_key}
use Rattle.mss_settings.proofs.TableFacts.{key-found}
use Rattle.mss_settings.proofs.lookup.has_key.Goals as goal

pub returns : goal.returns
unfolding has_key
returns c = c.is_some.ensures ∙ key-found _ _ (table_get c.get.result c.args.key.now c.args.table.now.entries c.get.ensures.value)
