-- The ten files of the tables, as they are read in turn.
use Rattle.std.specs.Prelude.{◌≡◌, ℕ, ◌+◌, List, [], ◌∷◌, Option, Some, None}
use Rattle.mss_desk.specs.Desk.{Files, Content}
use Rattle.mss_model.specs.Files.{table_names}
use Rattle.mss_tables.specs.TablesMeaning.{AreWithin}
use Rattle.mss_command.specs.declared.gather.Gathering.{Gathering}
use Rattle.mss_command.specs.declared.gather.Gathering.TheVariants as gathering
use Rattle.mss_command.specs.Fetched.{Fetched, Missing, TooLong, Bytes, fetched, file_limit}

-- the bytes of all files; or, by the first file that can't be had, that it isn't there, or its number where it is longer
-- than its limit
pub data Gathered : Type 0 where
  AllRead : List (List ℕ) → Gathered
  Lacking : Gathered
  Long : ℕ → Gathered

-- a file with this number, and what is gathered of those after it
abbrev pub and_then : ℕ → Fetched → Gathered → Gathered
and_then file (Bytes bytes) (AllRead later) = AllRead (bytes ∷ later)
and_then file (Bytes bytes) Lacking = Lacking
and_then file (Bytes bytes) (Long later) = Long later
and_then file Missing later = Lacking
and_then file TooLong later = Long file

-- the files with these names, numbered from the first
abbrev pub gathered_from : ℕ → Files → List (List ℕ) → Gathered
gathered_from first files [] = AllRead []
gathered_from first files (name ∷ names) = and_then first (fetched file_limit files name) (gathered_from (first + 1) files names)

unfoldable pub gathered : Files → Gathered
gathered files = gathered_from 0 files table_names

abbrev pub gathered_of : Gathering → Gathered
gathered_of (gathering.Files files) = AllRead files
gathered_of (gathering.TooLong file) = Long file

-- each file that was read is within its limit
abbrev pub AreWithinLimit : Gathering → Type 0
AreWithinLimit (gathering.Files files) = AreWithin files
AreWithinLimit (gathering.TooLong file) = Unit {0}

-- the content is told, and a file that is read in its turn isn't there
abbrev pub IsOneMissing : Option Content → Type 0
IsOneMissing (Some c) = gathered c.files ≡ Lacking
IsOneMissing None = ⊥
