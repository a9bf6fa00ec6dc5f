-- A file as it is read.
use Rattle.std.specs.Prelude.{ℕ, ◌≤◌, List, length, Option, Some, None, ltb, if◌then◌else◌}
use Rattle.std.specs.FinMap.{get}
use Rattle.mss_model.specs.declared.files.TheConstants.{MOST_BYTES}
use Rattle.mss_desk.specs.Desk.{Files}
use Rattle.mss_command.specs.declared.reading.Contents.{Contents}
use Rattle.mss_command.specs.declared.reading.Contents.TheVariants as contents

-- the most bytes of a file of the tables, of block.csv or of cycle.csv
abbrev pub file_limit : ℕ
file_limit = MOST_BYTES

-- not there, longer than its limit, or its bytes
pub data Fetched : Type 0 where
  Missing : Fetched
  TooLong : Fetched
  Bytes : List ℕ → Fetched

abbrev pub within : ℕ → Option (List ℕ) → Fetched
within limit None = Missing
within limit (Some bytes) = if ltb limit (length bytes) then TooLong else Bytes bytes

abbrev pub fetched : ℕ → Files → List ℕ → Fetched
fetched limit files name = within limit (get files name)

abbrev pub fetched_of : Contents → Fetched
fetched_of (contents.Bytes v) = Bytes v.items
fetched_of contents.TooLong = TooLong

-- what was read is within its limit
abbrev pub IsWithin : ℕ → Contents → Type 0
IsWithin limit (contents.Bytes v) = length v.items ≤ limit
IsWithin limit contents.TooLong = Unit {0}
