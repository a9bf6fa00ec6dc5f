-- What restricts a cycle: the needs of equipment, the unsuited rooms, the fixed slots and the barred days.
use Rattle.std.specs.Prelude.{◌+◌, ◌*◌, ℕ, List, [], ◌∷◌, Some, None, Result, Ok, codes, map}
use Rattle.mss_model.specs.Limits.{AreNumbers}
use Rattle.mss_model.specs.declared.faults.TableFault.{TableFault}
use Rattle.mss_model.specs.declared.limits.TheConstants.{MOST_UNITS}
use Rattle.mss_grid.specs.Columns.{among, option, whole}
use Rattle.mss_grid.specs.Grid.{Grid, grid_at}
use Rattle.mss_grid.specs.Reading.{◌>>=◌}
use Rattle.mss_tables.specs.Cells.{code_of, or_zero}
use Rattle.mss_tables.specs.Readings.{in_file}
use Rattle.mss_tables.specs.declared.restrictions.Restrictions.{Restrictions}

-- the columns of the four files
abbrev pub needs_grid : List (List ℕ) → List (List ℕ) → Grid
needs_grid specialties kinds = record { row = among specialties; column = among kinds; value = Some (whole 0 MOST_UNITS) }

abbrev pub unsuited_grid : List (List ℕ) → List (List ℕ) → Grid
unsuited_grid specialties rooms = record { row = among specialties; column = among rooms; value = None }

abbrev pub options_grid : ℕ → List (List ℕ) → List (List ℕ) → Grid
options_grid days rooms specialties = record { row = whole 1 days; column = among rooms; value = Some (option specialties) }

abbrev pub barred_grid : List (List ℕ) → ℕ → Grid
barred_grid specialties days = record { row = among specialties; column = whole 1 days; value = None }

-- their headers
abbrev pub needs_header : List (List ℕ)
needs_header = codes "specialty" ∷ codes "equipment" ∷ codes "units" ∷ []

abbrev pub unsuited_header : List (List ℕ)
unsuited_header = codes "specialty" ∷ codes "room" ∷ []

abbrev pub options_header : List (List ℕ)
options_header = codes "day" ∷ codes "room" ∷ codes "specialty" ∷ []

abbrev pub barred_header : List (List ℕ)
barred_header = codes "specialty" ∷ codes "day" ∷ []

-- the numbers of a grid: 0 for each place that no record gives a value
unfoldable pub numbers_at : ℕ → List (List ℕ) → Grid → List (List (List ℕ)) → Result (List ℕ) TableFault
numbers_at file header grid all = do
  cells ← in_file file (grid_at header grid all)
  Ok (map or_zero cells)

-- the codes of a grid of options: 0 for each place that no record gives one, and else one more than the option
unfoldable pub codes_at : ℕ → List (List ℕ) → Grid → List (List (List ℕ)) → Result (List ℕ) TableFault
codes_at file header grid all = do
  cells ← in_file file (grid_at header grid all)
  Ok (map code_of cells)

-- the needs, specialty by specialty and kind by kind
unfoldable pub needs_at : List (List ℕ) → List (List ℕ) → List (List (List ℕ)) → Result (List ℕ) TableFault
needs_at specialties kinds all = numbers_at 6 needs_header (needs_grid specialties kinds) all

-- specialty by specialty, 1 for each room that doesn't suit it
unfoldable pub unsuited_at : List (List ℕ) → List (List ℕ) → List (List (List ℕ)) → Result (List ℕ) TableFault
unsuited_at specialties rooms all = numbers_at 7 unsuited_header (unsuited_grid specialties rooms) all

-- day by day and room by room, 0 where the slot is free, and else one more than the option that it is to have
unfoldable pub fixed_at : ℕ → List (List ℕ) → List (List ℕ) → List (List (List ℕ)) → Result (List ℕ) TableFault
fixed_at days rooms specialties all = codes_at 8 options_header (options_grid days rooms specialties) all

-- specialty by specialty, 1 for each day on which it is barred
unfoldable pub barred_at : List (List ℕ) → ℕ → List (List (List ℕ)) → Result (List ℕ) TableFault
barred_at specialties days all = numbers_at 9 barred_header (barred_grid specialties days) all

-- the files 6 to 9, in the order of their numbers
unfoldable pub restrictions_at : ℕ → List (List ℕ) → List (List ℕ) → List (List ℕ) → (ℕ → List (List (List ℕ))) → Result Restrictions TableFault
restrictions_at days specialties rooms kinds all = do
  needs ← needs_at specialties kinds (all 6)
  unsuited ← unsuited_at specialties rooms (all 7)
  fixed ← fixed_at days rooms specialties (all 8)
  barred ← barred_at specialties days (all 9)
  Ok (record { needs = needs; unsuited = unsuited; fixed = fixed; barred = barred })

-- the restrictions of so many specialties, rooms and kinds of equipment are within the limits
pub record AreRestrictions (days specialties rooms kinds : ℕ) (r : Restrictions) : Type 0 where
  pub needs : AreNumbers (specialties * kinds) 0 MOST_UNITS r.needs
  pub unsuited : AreNumbers (specialties * rooms) 0 1 r.unsuited
  pub fixed : AreNumbers (days * rooms) 0 (specialties + 1) r.fixed
  pub barred : AreNumbers (specialties * days) 0 1 r.barred
