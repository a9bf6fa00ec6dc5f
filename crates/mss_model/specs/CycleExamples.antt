-- Worked examples of whole cycles, each proved by computing.
use Rattle.std.specs.Prelude.{◌≡◌, ℕ, List, [], ◌∷◌, map, Some, None, codes, refl, replicate}
use Rattle.mss_model.specs.declared.parts.TableParts.{TableParts}
use Rattle.mss_model.specs.TableWords.{day_of, room_of}
use Rattle.mss_model.specs.BlockAtAge.{BlockView}
use Rattle.mss_model.specs.Occurrences.{occurrences}
use Rattle.mss_model.specs.Census.{census}
use Rattle.mss_model.specs.Movements.{admissions, discharges}
use Rattle.mss_model.specs.Percentile.{percentile}
use Rattle.mss_model.specs.Peak.{peak}
use Rattle.mss_model.specs.Legality.{broken_rule}

-- one room `A`, open 480 minutes on each of some days, and one specialty `X`, of whose ward so many beds are always taken
abbrev room_with : ℕ → BlockView → List ℕ → ℕ → TableParts
room_with days block watch allow = record {
  days = days;
  parts = block.parts;
  rooms = codes "A" ∷ [];
  minutes = replicate days 480;
  wards = codes "Main" ∷ [];
  specialties = codes "X" ∷ [];
  ward_of = 1 ∷ [];
  daily = 16 ∷ [];
  low = 0 ∷ [];
  high = 1000000 ∷ [];
  blocks = block ∷ [];
  equipment = [];
  units = [];
  needs = [];
  unsuited = 0 ∷ [];
  barred = replicate days 0;
  fixed = replicate days 0;
  level = 500000;
  levels = 500000 ∷ [];
  watch = watch;
  allow = allow ∷ [];
  budget = 1000;
}

-- the same with a ward that is watched, and no such beds
abbrev one_room : ℕ → BlockView → TableParts
one_room days block = room_with days block (1 ∷ []) 0

-- one patient, who stays for a second day with chance 1 / 2
abbrev may_stay : BlockView
may_stay = record { parts = 2; patients = 0 ∷ 2 ∷ []; stays = 1 ∷ 2 ∷ [] }

-- In a cycle of one day the patient of the day before may still be there: one or two, with equal chance.
overlap : census (one_room 1 may_stay) 1 1 (1 ∷ []) ≡ 0 ∷ 4 ∷ 4 ∷ []
overlap = refl

-- so the median is one, exactly
overlap_median : peak (one_room 1 may_stay) (1 ∷ []) 500000 1000000 ≡ 1
overlap_median = refl

overlap_above : peak (one_room 1 may_stay) (1 ∷ []) 500001 1000000 ≡ 2
overlap_above = refl

-- where three beds of the ward are always taken, the peak is three more
overlap_and_three : peak (room_with 1 may_stay (1 ∷ []) 3) (1 ∷ []) 500000 1000000 ≡ 4
overlap_and_three = refl

-- the peak of a ward doesn't count where it isn't watched
unwatched_peak : peak (room_with 1 may_stay [] 0) (1 ∷ []) 500000 1000000 ≡ 0
unwatched_peak = refl

-- one is admitted each day, and nobody, one or two are discharged, in 8, 16 and 8 of 32 ways
overlap_admitted : admissions (one_room 1 may_stay) 1 1 (1 ∷ []) ≡ 0 ∷ 2 ∷ []
overlap_admitted = refl

overlap_discharged : discharges (one_room 1 may_stay) 1 1 (1 ∷ []) ≡ 8 ∷ 16 ∷ 8 ∷ []
overlap_discharged = refl

-- nobody is there in the idle cycle, nor on another ward
idle_census : census (one_room 1 may_stay) 1 1 (0 ∷ []) ≡ 1 ∷ []
idle_census = refl

other_ward : census (one_room 1 may_stay) 2 1 (1 ∷ []) ≡ 1 ∷ []
other_ward = refl

-- one patient, who leaves on the ninth day after surgery
abbrev long_stay : BlockView
long_stay = record { parts = 1; patients = 0 ∷ 1 ∷ []; stays = 0 ∷ 0 ∷ 0 ∷ 0 ∷ 0 ∷ 0 ∷ 0 ∷ 0 ∷ 0 ∷ 1 ∷ [] }

-- a week with one block, on day 5
abbrev day_five : List ℕ
day_five = 0 ∷ 0 ∷ 0 ∷ 0 ∷ 1 ∷ 0 ∷ 0 ∷ []

-- on day 1 the patient of the week before is there, and on day 5 that of the day and that of the week before
before_surgery : occurrences (one_room 7 long_stay) 1 1 day_five ≡ record { specialty = 1; age = 3 } ∷ []
before_surgery = refl

on_surgery : occurrences (one_room 7 long_stay) 1 5 day_five
    ≡ record { specialty = 1; age = 0 } ∷ record { specialty = 1; age = 7 } ∷ []
on_surgery = refl

week : map (λ day. percentile (census (one_room 7 long_stay) 1 day day_five) 500000 1000000) (1 ∷ 2 ∷ 3 ∷ 4 ∷ 5 ∷ 6 ∷ 7 ∷ [])
    ≡ 1 ∷ 1 ∷ 1 ∷ 1 ∷ 2 ∷ 2 ∷ 2 ∷ []
week = refl

admitted_on_five : map (λ day. admissions (one_room 7 long_stay) 1 day day_five) (4 ∷ 5 ∷ 6 ∷ []) ≡ (1 ∷ []) ∷ (0 ∷ 1 ∷ []) ∷ (1 ∷ []) ∷ []
admitted_on_five = refl

discharged_on_seven : map (λ day. percentile (discharges (one_room 7 long_stay) 1 day day_five) 1 1) (5 ∷ 6 ∷ 7 ∷ []) ≡ 0 ∷ 0 ∷ 1 ∷ []
discharged_on_seven = refl

week_peak : peak (one_room 7 long_stay) day_five 500000 1000000 ≡ 2
week_peak = refl

-- ---- rules

-- two rooms on one day, one microscope, which each block of X takes, and at least 480 minutes for X
abbrev one_microscope : TableParts
one_microscope = record {
  days = 1;
  parts = may_stay.parts;
  rooms = codes "A" ∷ codes "B" ∷ [];
  minutes = 480 ∷ 480 ∷ [];
  wards = codes "Main" ∷ [];
  specialties = codes "X" ∷ [];
  ward_of = 1 ∷ [];
  daily = 16 ∷ [];
  low = 480 ∷ [];
  high = 1000000 ∷ [];
  blocks = may_stay ∷ [];
  equipment = codes "Microscope" ∷ [];
  units = 1 ∷ [];
  needs = 1 ∷ [];
  unsuited = 0 ∷ 0 ∷ [];
  barred = 0 ∷ [];
  fixed = 0 ∷ 0 ∷ [];
  level = 500000;
  levels = 500000 ∷ [];
  watch = 1 ∷ [];
  allow = 0 ∷ [];
  budget = 1000;
}

-- with two rooms, slot 3 is the second room of day 2
second_day : day_of one_microscope 3 ≡ 2
second_day = refl

second_room : room_of one_microscope 3 ≡ 2
second_room = refl

one_block_fits : broken_rule one_microscope (1 ∷ 0 ∷ []) ≡ None
one_block_fits = refl

two_blocks_lack : broken_rule one_microscope (1 ∷ 1 ∷ []) ≡ Some 4
two_blocks_lack = refl

-- after one idle room there is still room for the block, and after two there isn't
one_idle : broken_rule one_microscope (0 ∷ []) ≡ None
one_idle = refl

all_idle : broken_rule one_microscope (0 ∷ 0 ∷ []) ≡ Some 7
all_idle = refl

-- where two specialties, of low minutes 1200 each, have four rooms of 480 minutes between them, each could still be
-- served but not both
abbrev two_specialties : TableParts
two_specialties = record {
  days = 1;
  parts = may_stay.parts;
  rooms = codes "A" ∷ codes "B" ∷ codes "C" ∷ codes "D" ∷ [];
  minutes = 480 ∷ 480 ∷ 480 ∷ 480 ∷ [];
  wards = codes "Main" ∷ [];
  specialties = codes "X" ∷ codes "Y" ∷ [];
  ward_of = 1 ∷ 1 ∷ [];
  daily = 16 ∷ 16 ∷ [];
  low = 1200 ∷ 1200 ∷ [];
  high = 1920 ∷ 1920 ∷ [];
  blocks = may_stay ∷ may_stay ∷ [];
  equipment = [];
  units = [];
  needs = [];
  unsuited = replicate 8 0;
  barred = 0 ∷ 0 ∷ [];
  fixed = replicate 4 0;
  level = 500000;
  levels = 500000 ∷ [];
  watch = 1 ∷ [];
  allow = 0 ∷ [];
  budget = 1000;
}

both_lack : broken_rule two_specialties [] ≡ Some 8
both_lack = refl
