-- The tables that the ten files of a desk mean.
use Rattle.std.specs.Prelude.{◌≡◌, ℕ, List, map, Option, Some, None, Result, Ok, Err}
use Rattle.std.specs.FinMap.{get}
use Rattle.mss_model.specs.Files.{table_names}
use Rattle.mss_model.specs.declared.faults.TableFault.{TableFault}
use Rattle.mss_model.specs.declared.parts.TableParts.{TableParts}
use Rattle.mss_desk.specs.Desk.{Files}
use Rattle.mss_tables.specs.TablesMeaning.{AreWithin, tables_at}
use Rattle.mss_command.specs.Gathered.{Gathered, AllRead, Lacking, Long, gathered}
use Rattle.mss_command.specs.Refusals.{too_long}

-- the tables as gathered files read: their meaning, or their first fault, where a file that is longer than its limit comes
-- before all others; nothing where a file isn't there
abbrev pub tables_gathered : Gathered → Option (Result TableParts TableFault)
tables_gathered (AllRead files) = Some (tables_at files)
tables_gathered (Long file) = Some (Err (too_long file))
tables_gathered Lacking = None

-- the tables on a desk as they read
abbrev pub tables_on : Files → Option (Result TableParts TableFault)
tables_on files = tables_gathered (gathered files)

-- the ten files are stored, each within its limit, and mean these tables
pub record StoresTables (files : Files) (tables : TableParts) : Type 0 where
  pub bytes : List (List ℕ)
  pub stored : map (λ name. get files name) table_names ≡ map (λ file. Some file) bytes
  pub within : AreWithin bytes
  pub means : tables_at bytes ≡ Ok tables
