-- What is written record by record is read back.
use Rattle.std.proofs.Common.{◌≡◌, ◌∷◌, ℕ, List, [], map, ap, ◌∙◌}
use Rattle.csv.specs.Reading.{default_config, records}
use Rattle.csv.specs.Writing.{read_back}
use Rattle.csv.specs.declared.parser.State.TheVariants as st
use Rattle.csv.proofs.RoundTrip.{read-write}
use Rattle.mss_rows.specs.Written.{rows_written}
use Rattle.mss_rows.specs.UnreadLaws.{after-read, records-end}

pub rows-back : (rows : List (List (List ℕ))) → records default_config (rows_written rows) ≡ map read_back rows
rows-back [] = records-end default_config 1
rows-back (row ∷ rows) =
    after-read st.StartRecord (rows_written (row ∷ rows)) (read_back row, st.StartRecord, rows_written rows) (read-write row (rows_written rows))
    ∙ ap (λ (t : List (List (List ℕ))). read_back row ∷ t) (rows-back rows)
