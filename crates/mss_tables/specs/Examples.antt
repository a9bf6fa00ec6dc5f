-- Worked examples: what files say, and their first faults.
use Rattle.std.specs.Prelude.{◌≡◌, ℕ, List, [], ◌∷◌, Some, None, Ok, Err, codes}
use Rattle.std.specs.Str.{is_utf8, chars}
use lib.Utf8.{encode}
use Rattle.std.proofs.Common.{refl}
use Rattle.mss_model.specs.declared.faults.Kind.TheVariants as kind
use Rattle.mss_rows.specs.Fields.{digits_after}
use Rattle.mss_rows.specs.FirstFault.{first_from}
use Rattle.mss_grid.specs.Grid.{entry, grid_at}
use Rattle.mss_grid.specs.Record.{three_numbers, two_numbers}
use Rattle.mss_tables.specs.Allowances.{allow_of}
use Rattle.mss_tables.specs.Chances.{named_below}
use Rattle.mss_tables.specs.Growing.{all_named}
use Rattle.mss_tables.specs.Equipment.{equipment_at, equipment_header}
use Rattle.mss_tables.specs.Patients.{patients_at, patients_header}
use Rattle.mss_tables.specs.Readings.{rows_at}
use Rattle.mss_tables.specs.Restrictions.{barred_at, barred_header, codes_at, fixed_at, needs_at, needs_header, numbers_at, options_header, unsuited_at, unsuited_header}
use Rattle.mss_tables.specs.Rooms.{minutes_of, room_fault, rooms_at, rooms_header, time_at}
use Rattle.mss_tables.specs.Specialties.{number_from}
use Rattle.mss_tables.specs.SpecialtyFile.{listing_at, specialties_at, specialties_header, specialty_fault}
use Rattle.mss_tables.specs.Stays.{stays_at, stays_header}
use Rattle.mss_tables.specs.Watch.{watch_at, watch_fault, watched_numbers}

abbrev rooms : List (List ℕ)
rooms = codes "A" ∷ codes "B" ∷ []

abbrev specialties : List (List ℕ)
specialties = codes "X" ∷ codes "Y" ∷ []

-- a record of the rooms says minutes of a room on a day, which is counted from 0
second-day : time_at 2 (codes "A" ∷ codes "2" ∷ codes "480" ∷ []) ≡ Ok (record { room = codes "A"; day = 1; minutes = 480 })
unfolding time_at digits_after is_utf8 chars encode
second-day = refl

third-day : time_at 2 (codes "A" ∷ codes "3" ∷ codes "480" ∷ []) ≡ Err kind.Range
unfolding time_at digits_after is_utf8 chars encode
third-day = refl

-- a name stands where it first comes
first-places : all_named (codes "B" ∷ codes "A" ∷ codes "B" ∷ []) ≡ codes "B" ∷ codes "A" ∷ []
first-places = refl

-- rooms are named in the order of their first records, and a slot without a record has no minutes
two-rooms : rooms_at 2 (rooms_header ∷ (codes "A" ∷ codes "2" ∷ codes "480" ∷ []) ∷ (codes "B" ∷ codes "1" ∷ codes "90" ∷ []) ∷ []) ≡ Ok (record { names = rooms; minutes = 0 ∷ 90 ∷ 480 ∷ 0 ∷ [] })
unfolding rooms_at rows_at time_at minutes_of first_from digits_after is_utf8 chars encode
two-rooms = refl

-- a room has its minutes of a day once, and of each day
day-twice : room_fault 2 ((codes "A" ∷ codes "2" ∷ codes "480" ∷ []) ∷ []) (codes "A" ∷ codes "02" ∷ codes "90" ∷ []) ≡ Some kind.Twice
unfolding time_at digits_after is_utf8 chars encode
day-twice = refl

other-day : room_fault 2 ((codes "A" ∷ codes "2" ∷ codes "480" ∷ []) ∷ []) (codes "A" ∷ codes "1" ∷ codes "90" ∷ []) ≡ None
unfolding time_at digits_after is_utf8 chars encode
other-day = refl

no-room : rooms_at 2 (rooms_header ∷ []) ≡ Err (record { file = 1; row = 0; item = 0; kind = kind.NoRecord })
unfolding rooms_at rows_at first_from
no-room = refl

-- wards are numbered in the order in which they are first named
two-wards : specialties_at (specialties_header ∷ (codes "X" ∷ codes "Main" ∷ codes "1" ∷ codes "0" ∷ codes "4" ∷ [])
    ∷ (codes "Y" ∷ codes "Short" ∷ codes "2" ∷ codes "5" ∷ codes "5" ∷ []) ∷ (codes "Z" ∷ codes "Main" ∷ codes "0" ∷ codes "0" ∷ codes "0" ∷ []) ∷ [])
    ≡ Ok (record {
      names = codes "X" ∷ codes "Y" ∷ codes "Z" ∷ [];
      wards = codes "Main" ∷ codes "Short" ∷ [];
      ward_of = 1 ∷ 2 ∷ 1 ∷ [];
      daily = 1 ∷ 2 ∷ 0 ∷ [];
      low = 0 ∷ 5 ∷ 0 ∷ [];
      high = 4 ∷ 5 ∷ 0 ∷ [];
    })
unfolding specialties_at rows_at listing_at first_from digits_after is_utf8 chars encode
two-wards = refl

-- the low minutes are at most the high minutes
low-above-high : specialties_at (specialties_header ∷ (codes "X" ∷ codes "Main" ∷ codes "1" ∷ codes "5" ∷ codes "4" ∷ []) ∷ [])
    ≡ Err (record { file = 2; row = 1; item = 0; kind = kind.HoursOrder })
unfolding specialties_at rows_at listing_at first_from digits_after is_utf8 chars encode
low-above-high = refl

-- a specialty is named once
named-twice : specialty_fault ((codes "X" ∷ codes "Main" ∷ codes "1" ∷ codes "0" ∷ codes "4" ∷ []) ∷ []) (codes "X" ∷ codes "Short" ∷ codes "1" ∷ codes "0" ∷ codes "4" ∷ []) ≡ Some kind.Twice
unfolding listing_at digits_after is_utf8 chars encode
named-twice = refl

-- a count that is not named has no chance
two-counts : patients_at 1000000 (codes "X" ∷ []) (patients_header ∷ (codes "X" ∷ codes "2" ∷ codes "400000" ∷ []) ∷ (codes "X" ∷ codes "0" ∷ codes "600000" ∷ []) ∷ []) ≡ Ok ((600000 ∷ 0 ∷ 400000 ∷ []) ∷ [])
unfolding patients_at grid_at entry three_numbers named_below number_from first_from digits_after is_utf8 chars encode
two-counts = refl

-- the chances of each specialty sum to the whole
no-count-of-Y : patients_at 1000000 specialties (patients_header ∷ (codes "X" ∷ codes "0" ∷ codes "1000000" ∷ []) ∷ []) ≡ Err (record { file = 3; row = 0; item = 2; kind = kind.ChanceSum })
unfolding patients_at grid_at entry three_numbers named_below number_from first_from digits_after is_utf8 chars encode
no-count-of-Y = refl

-- the ages of a specialty come one by one from 0
two-ages : stays_at 1000000 (codes "X" ∷ []) (stays_header ∷ (codes "X" ∷ codes "0" ∷ codes "5" ∷ []) ∷ (codes "X" ∷ codes "1" ∷ codes "1000000" ∷ []) ∷ []) ≡ Ok ((5 ∷ 1000000 ∷ []) ∷ [])
unfolding stays_at rows_at three_numbers number_from first_from digits_after is_utf8 chars encode
two-ages = refl

age-left-out : stays_at 1000000 (codes "X" ∷ []) (stays_header ∷ (codes "X" ∷ codes "1" ∷ codes "5" ∷ []) ∷ []) ≡ Err (record { file = 4; row = 1; item = 0; kind = kind.StayOrder })
unfolding stays_at rows_at three_numbers first_from digits_after is_utf8 chars encode
age-left-out = refl

-- a discharge is certain where its chance is the whole
no-last-age : stays_at 1000000000 (codes "X" ∷ []) (stays_header ∷ (codes "X" ∷ codes "0" ∷ codes "1000000" ∷ []) ∷ []) ≡ Err (record { file = 4; row = 0; item = 1; kind = kind.StayEnd })
unfolding stays_at rows_at three_numbers number_from first_from digits_after is_utf8 chars encode
no-last-age = refl

one-kind : equipment_at (equipment_header ∷ (codes "Scope" ∷ codes "2" ∷ []) ∷ []) ≡ Ok (record { names = codes "Scope" ∷ []; units = 2 ∷ [] })
unfolding equipment_at rows_at first_from digits_after is_utf8 chars encode
one-kind = refl

one-need : needs_at specialties (codes "Scope" ∷ []) (needs_header ∷ (codes "Y" ∷ codes "Scope" ∷ codes "2" ∷ []) ∷ []) ≡ Ok (0 ∷ 2 ∷ [])
unfolding needs_at numbers_at grid_at entry three_numbers first_from digits_after is_utf8 chars encode
one-need = refl

one-unsuited : unsuited_at specialties rooms (unsuited_header ∷ (codes "X" ∷ codes "B" ∷ []) ∷ []) ≡ Ok (0 ∷ 1 ∷ 0 ∷ 0 ∷ [])
unfolding unsuited_at numbers_at grid_at entry two_numbers first_from is_utf8 chars encode
one-unsuited = refl

-- a free slot is 0, one that is to stay idle 1, and one of the first specialty 2
two-fixed : fixed_at 2 rooms specialties (options_header ∷ (codes "1" ∷ codes "B" ∷ codes "-" ∷ []) ∷ (codes "2" ∷ codes "A" ∷ codes "X" ∷ []) ∷ []) ≡ Ok (0 ∷ 1 ∷ 2 ∷ 0 ∷ [])
unfolding fixed_at codes_at grid_at entry three_numbers first_from digits_after is_utf8 chars encode
two-fixed = refl

barred-twice : barred_at specialties 2 (barred_header ∷ (codes "Y" ∷ codes "2" ∷ []) ∷ (codes "Y" ∷ codes "02" ∷ []) ∷ []) ≡ Err (record { file = 9; row = 2; item = 0; kind = kind.Twice })
unfolding barred_at numbers_at grid_at entry two_numbers first_from digits_after is_utf8 chars encode
barred-twice = refl

second-ward : watch_at (codes "Main" ∷ codes "Short" ∷ []) (codes "Short" ∷ []) ≡ Ok (2 ∷ [])
unfolding watch_at watch_fault watched_numbers
second-ward = refl

no-such-ward : watch_at (codes "Main" ∷ []) (codes "Short" ∷ []) ≡ Err (record { file = 0; row = 0; item = 5; kind = kind.Unknown })
unfolding watch_at watch_fault
no-such-ward = refl

-- wards have the allowances beside their numbers, and those that aren't watched have none
three-wards : allow_of (3 ∷ 1 ∷ []) (5 ∷ 7 ∷ []) 3 ≡ 7 ∷ 0 ∷ 5 ∷ []
three-wards = refl
