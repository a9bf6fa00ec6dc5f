-- What the command `block` comes to, and what it promises.
use Rattle.std.specs.Prelude.{◌≡◌, ◌⊎◌, ℕ, Bool, true, false, List, [], ◌++◌, Some, Ok, Err, codes, flat_map, map}
use Rattle.std.specs.List.{All}
use Rattle.std.specs.FinMap.{get}
use Rattle.mss_model.specs.BlockAtAge.{BlockView}
use Rattle.mss_model.specs.declared.faults.TableFault.{TableFault}
use Rattle.mss_desk.specs.Desk.{Files}
use Rattle.mss_tables.specs.BlockFile.{block_at}
use Rattle.mss_report.specs.BlockText.{BlockLine, BlockLineHolds, PrintsBlock, block_line_text, block_subjects, subject}
use Rattle.mss_report.specs.Faults.{fault_text_of}
use Rattle.mss_command.specs.declared.status.Status.{Status}
use Rattle.mss_command.specs.declared.status.Status.TheVariants as statuses
use Rattle.mss_command.specs.Fetched.{Fetched, Missing, TooLong, Bytes}
use Rattle.mss_command.specs.Outcome.{Outcome, saying}
use Rattle.mss_command.specs.Refusals.{too_long}

abbrev pub block_file : List ℕ
block_file = codes "block.csv"

-- the text of the block that the file means is said
pub record PrintsFile (bytes : List ℕ) (o : Outcome) : Type 0 where
  pub block : BlockView
  pub means : block_at bytes ≡ Ok block
  pub prints : PrintsBlock block o.text
  pub status : o.status ≡ statuses.Done
  pub puts : o.puts ≡ []

-- the first fault of the file is said
pub record RefusesFile (bytes : List ℕ) (o : Outcome) : Type 0 where
  pub fault : TableFault
  pub first : block_at bytes ≡ Err fault
  pub refuses : o ≡ saying statuses.Tables (fault_text_of fault)

-- what is said where block.csv was read like this
abbrev pub BlockDefines : Fetched → Outcome → Type 0
BlockDefines Missing o = ⊥
BlockDefines TooLong o = o ≡ saying statuses.Tables (fault_text_of (too_long 10))
BlockDefines (Bytes bytes) o = PrintsFile bytes o ⊎ RefusesFile bytes o

abbrev pub block_may_end : Status → Bool
block_may_end statuses.Done = true
block_may_end statuses.Tables = true
block_may_end _ = false

-- The text is that of lines on all ages and numbers of patients in order, and each line holds of the block that
-- block.csv means: its two decimals enclose the exact chance that so many patients are there at that age, and are at
-- most 10^-9 apart.
pub record PrintedBlock (files : Files) (text : List ℕ) : Type 0 where
  pub bytes : List ℕ
  pub stored : get files block_file ≡ Some bytes
  pub block : BlockView
  pub means : block_at bytes ≡ Ok block
  pub lines : List BlockLine
  pub exact : text ≡ codes "mss block 1\n" ++ flat_map block_line_text lines
  pub subjects : map subject lines ≡ block_subjects block
  pub hold : All (BlockLineHolds block) lines
