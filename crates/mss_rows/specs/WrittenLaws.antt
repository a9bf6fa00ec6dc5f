-- What is written is read back whole.
use Rattle.std.proofs.Common.{◌≡◌, ℕ, List, map, ◌∙◌}
use Rattle.csv.specs.Reading.{strip_bom}
use Rattle.csv.specs.Writing.{read_back}
use Rattle.mss_rows.specs.Records.{records_in}
use Rattle.mss_rows.specs.Written.{text_of}
use Rattle.mss_rows.specs.BackLaws.{rows-back}

-- a text that begins with no byte order mark
pub records-back : (rows : List (List (List ℕ))) → strip_bom (text_of rows) ≡ text_of rows → map read_back rows ≡ rows → records_in (text_of rows) ≡ rows
unfolding text_of
records-back rows plain full = rw plain (rows-back rows ∙ full)
