-- Worked examples: the slots of two rooms on two days, which two specialties may have.
use Rattle.std.specs.Prelude.{◌≡◌, ℕ, List, [], ◌∷◌, Some, None, Ok, Err, codes}
use Rattle.std.specs.Str.{is_utf8, chars}
use lib.Utf8.{encode}
use Rattle.std.proofs.Common.{refl}
use Rattle.mss_model.specs.declared.faults.Kind.TheVariants as kind
use Rattle.mss_rows.specs.Fields.{digits_after}
use Rattle.mss_rows.specs.FirstFault.{first_from}
use Rattle.mss_grid.specs.Columns.{among, option, whole}
use Rattle.mss_grid.specs.Grid.{Grid, entry, grid_at}
use Rattle.mss_grid.specs.Record.{three_numbers}

abbrev slots : Grid
slots = record { row = whole 1 2; column = among (codes "A" ∷ codes "B" ∷ []); value = Some (option (codes "X" ∷ codes "Y" ∷ [])) }

abbrev header : List (List ℕ)
header = codes "day" ∷ codes "room" ∷ codes "specialty" ∷ []

abbrev second_day : List (List ℕ)
second_day = codes "2" ∷ codes "A" ∷ codes "Y" ∷ []

-- room A on day 2 is the third of the four places, and Y the second of the specialties
place-and-value : entry slots second_day ≡ Ok (2, 2)
unfolding entry three_numbers digits_after is_utf8 chars encode
place-and-value = refl

idle : entry slots (codes "1" ∷ codes "B" ∷ codes "-" ∷ []) ≡ Ok (1, 0)
unfolding entry three_numbers digits_after is_utf8 chars encode
idle = refl

-- each field is tested by itself before a name is looked up
empty-name : entry slots (codes "1" ∷ codes "C" ∷ [] ∷ []) ≡ Err kind.Name
unfolding entry three_numbers digits_after is_utf8 chars encode
empty-name = refl

no-such-room : entry slots (codes "1" ∷ codes "C" ∷ codes "Y" ∷ []) ≡ Err kind.Unknown
unfolding entry three_numbers digits_after is_utf8 chars encode
no-such-room = refl

no-such-day : entry slots (codes "3" ∷ codes "A" ∷ codes "Y" ∷ []) ≡ Err kind.Range
unfolding entry three_numbers digits_after is_utf8 chars encode
no-such-day = refl

two-fields : entry slots (codes "1" ∷ codes "A" ∷ []) ≡ Err kind.Columns
unfolding entry three_numbers
two-fields = refl

-- the value of each place, where a record gives it one
one-record : grid_at header slots (header ∷ second_day ∷ []) ≡ Ok (None ∷ None ∷ Some 2 ∷ None ∷ [])
unfolding grid_at first_from entry three_numbers digits_after is_utf8 chars encode
one-record = refl

-- a place that is given twice is a fault of the second record
place-twice : grid_at header slots (header ∷ second_day ∷ second_day ∷ []) ≡ Err (record { row = 2; kind = kind.Twice })
unfolding grid_at first_from entry three_numbers digits_after is_utf8 chars encode
place-twice = refl

other-header : grid_at header slots ((codes "day" ∷ codes "room" ∷ []) ∷ second_day ∷ []) ≡ Err (record { row = 0; kind = kind.Header })
unfolding grid_at
other-header = refl
