-- Worked examples of slots that are alike, each proved by computing.
use Rattle.std.specs.Prelude.{◌≡◌, ℕ, true, false, List, [], ◌∷◌, Some, None, codes, refl, replicate}
use Rattle.mss_model.specs.declared.parts.TableParts.{TableParts}
use Rattle.mss_model.specs.BlockAtAge.{BlockView}
use Rattle.mss_alike.specs.Alike.{alike_count, canonical_rule, is_alike}
use Rattle.mss_alike.specs.Arranged.{canonical_cycle}

-- a patient with chance 7 in 10, who leaves on the day of surgery
abbrev one_day : BlockView
one_day = record { parts = 10; patients = 3 ∷ 7 ∷ []; stays = 10 ∷ [] }

-- some days in two rooms, and one specialty, which is to have 480 minutes. Given are the minutes of the slots, what they
-- are fixed to, and for which rooms the specialty isn't suited.
abbrev two_rooms : ℕ → List ℕ → List ℕ → List ℕ → TableParts
two_rooms days minutes fixed unsuited = record {
  days = days;
  parts = one_day.parts;
  rooms = codes "A" ∷ codes "B" ∷ [];
  minutes = minutes;
  wards = codes "Main" ∷ [];
  specialties = codes "X" ∷ [];
  ward_of = 1 ∷ [];
  daily = 16 ∷ [];
  low = 480 ∷ [];
  high = 480 ∷ [];
  blocks = one_day ∷ [];
  equipment = [];
  units = [];
  needs = [];
  unsuited = unsuited;
  barred = replicate days 0;
  fixed = fixed;
  level = 300000;
  levels = 300000 ∷ [];
  watch = 1 ∷ [];
  allow = 0 ∷ [];
  budget = 1000;
}

-- one day with two slots that no rule tells apart
abbrev alike_day : TableParts
alike_day = two_rooms 1 (480 ∷ 480 ∷ []) (0 ∷ 0 ∷ []) (0 ∷ 0 ∷ [])

alike_rooms : is_alike alike_day 0 1 ≡ true
alike_rooms = refl

-- slots that one thing tells apart: the minutes, the fixed option, the rooms' specialties, the day
other_minutes : is_alike (two_rooms 1 (480 ∷ 240 ∷ []) (0 ∷ 0 ∷ []) (0 ∷ 0 ∷ [])) 0 1 ≡ false
other_minutes = refl

fixed_to_idle : is_alike (two_rooms 1 (480 ∷ 480 ∷ []) (0 ∷ 1 ∷ []) (0 ∷ 0 ∷ [])) 0 1 ≡ false
fixed_to_idle = refl

suits_one_alone : is_alike (two_rooms 1 (480 ∷ 480 ∷ []) (0 ∷ 0 ∷ []) (0 ∷ 1 ∷ [])) 0 1 ≡ false
suits_one_alone = refl

suits_neither : is_alike (two_rooms 1 (480 ∷ 480 ∷ []) (0 ∷ 0 ∷ []) (1 ∷ 1 ∷ [])) 0 1 ≡ true
suits_neither = refl

other_day : is_alike (two_rooms 2 (replicate 4 480) (replicate 4 0) (0 ∷ 0 ∷ [])) 1 2 ≡ false
other_day = refl

-- the block stands in the later of the two slots: before it the order is broken, and a lesser rule is told first
later_block : canonical_rule alike_day (0 ∷ 1 ∷ []) ≡ None
later_block = refl

earlier_block : canonical_rule alike_day (1 ∷ 0 ∷ []) ≡ Some 9
earlier_block = refl

undecided_block : canonical_rule alike_day (1 ∷ []) ≡ None
undecided_block = refl

two_blocks : canonical_rule alike_day (1 ∷ 1 ∷ []) ≡ Some 6
two_blocks = refl

no_block_at_all : canonical_rule alike_day (0 ∷ 0 ∷ []) ≡ Some 7
no_block_at_all = refl

-- of rooms that are told apart either may have the block
only_suited : canonical_rule (two_rooms 1 (480 ∷ 480 ∷ []) (0 ∷ 0 ∷ []) (0 ∷ 1 ∷ [])) (1 ∷ 0 ∷ []) ≡ None
only_suited = refl

-- the canonical cycle has the block in the later slot, as often as before
moved : canonical_cycle alike_day (1 ∷ 0 ∷ []) ≡ 0 ∷ 1 ∷ []
moved = refl

as_often : alike_count alike_day (0 ∷ 1 ∷ []) 0 1 ≡ alike_count alike_day (1 ∷ 0 ∷ []) 0 1
as_often = refl
