-- The generated files as a whole.
use Rattle.std.proofs.Common.{◌≡◌, ◌≤◌, ◌+◌, ◌∷◌, ℕ, List, [], length, None, Ok, true, refl, ap, arith, inl, inr, decimal, codes, get_or}
use Rattle.std.specs.Prelude.{⊤}
use Rattle.std.specs.Fmt.{digits}
use Rattle.std.specs.List.{list_all}
use Rattle.std.proofs.lemmas.List.Elements.{All-cons, All-nil}
use Rattle.csv.specs.Reading.{strip_bom}
use Rattle.csv.specs.Writing.{fields_text}
use Rattle.mss_rows.specs.Records.{records_in}
use Rattle.mss_rows.specs.Written.{text_of}
use Rattle.mss_rows.specs.WrittenLaws.{records-back}
use Rattle.mss_tables.specs.Blocks.{blocks_at}
use Rattle.mss_tables.specs.Equipment.{equipment_at, equipment_header}
use Rattle.mss_tables.specs.Patients.{patients_at, patients_header}
use Rattle.mss_tables.specs.Restrictions.{barred_at, barred_header, fixed_at, needs_at, needs_header, options_header, restrictions_at, unsuited_at, unsuited_header}
use Rattle.mss_tables.specs.Rooms.{rooms_at, rooms_header}
use Rattle.mss_tables.specs.SpecialtyFile.{specialties_at, specialties_header}
use Rattle.mss_tables.specs.Stays.{stays_at, stays_header}
use Rattle.mss_tables.specs.TablesMeaning.{AreWithin, all_of, hospital_at, settings_at, tables_at, tables_fault}
use Rattle.mss_tables.specs.Watch.{watch_at, watch_fault, watched_at}
use Rattle.mss_settings.specs.Meaning.{settings_fault, settings_in}
use Rattle.mss_settings.specs.declared.settings.Settings.{Settings}
use Rattle.mss_gen.specs.Generated.{files_of, tables_rows}
use Rattle.mss_gen.specs.Rows.{barred_rows, by_specialty, needs_rows, patients_rows, rooms_rows, specialty_rows, stays_rows, unsuited_rows}
use Rattle.mss_gen.specs.SettingsText.{settings_of, settings_text}
use Rattle.mss_gen.specs.Sizes.{shape_of}
use Rattle.mss_gen.specs.declared.size.Shape.{Shape}
use Rattle.mss_gen.specs.declared.size.Size.{Size}
use Rattle.mss_gen.specs.declared.size.Size.TheVariants as size
use Rattle.mss_gen.specs.declared.specialty.Specialty.{Specialty}
use Rattle.mss_gen.proofs.Accepted.{barred-good, equipment-good, fixed-good, needs-good, patients-good, specialties-good, stays-good, unsuited-good}
use Rattle.mss_gen.proofs.BySpecialty.{Each}
use Rattle.mss_gen.proofs.NamedFacts.{names}
use Rattle.mss_gen.proofs.PlacesFacts.{kinds}
use Rattle.mss_gen.proofs.Read.{HasNoFault, IsRead}
use Rattle.mss_gen.proofs.RoomsFacts.{rooms-good}
use Rattle.mss_gen.proofs.SettingsFacts.{settings-good, settings-read}
use Rattle.mss_gen.proofs.ShortRows.{count-by, is_short, read-back-same, short-by, short-number, text-length}
use Rattle.mss_gen.proofs.ShortTables.{barred-count, barred-short, needs-count, needs-short, patients-short, rooms-count, rooms-short, specialty-short, stays-count, stays-short, unsuited-count, unsuited-short}
use Rattle.mss_gen.proofs.Sound.{IsSound}
use Rattle.mss_gen.proofs.SpecialtiesFacts.{IsFewWards}

-- what is drawn for tables of a size
pub record AreDrawn (shape : Shape) (all : List Specialty) (units : ℕ) : Type 0 where
  pub count : length all ≡ shape.specialties
  pub each : Each (IsSound shape.days shape.rooms) all
  pub units_few : units ≤ 1000

-- the shapes are within these limits
pub record IsLittle (shape : Shape) : Type 0 where
  pub days : shape.days ≤ 28
  pub rooms : shape.rooms ≤ 8
  pub some : 1 ≤ shape.specialties
  pub few : shape.specialties ≤ 8
  pub wards : IsFewWards shape.wards
  pub turns : shape.wards ≤ shape.specialties

pub little : (s : Size) → IsLittle (shape_of s)
little size.Small = record { days = omega arith; rooms = omega arith; some = omega arith; few = omega arith; wards = inl refl; turns = omega arith }
little size.Middle = record { days = omega arith; rooms = omega arith; some = omega arith; few = omega arith; wards = inl refl; turns = omega arith }
little size.Large = record { days = omega arith; rooms = omega arith; some = omega arith; few = omega arith; wards = inr refl; turns = omega arith }

-- a text that begins with a header is read back
back : (rows : List (List (List ℕ))) → list_all is_short rows ≡ true → strip_bom (text_of rows) ≡ text_of rows → records_in (text_of rows) ≡ rows
back rows short plain = records-back rows plain (read-back-same rows short)

-- the readings of the tables, one by one
pub record AreRead (s : Settings) (files specialties rooms wards equipment : List (List ℕ)) : Type 0 where
  pub rooms_read : IsRead (rooms_at s.days (all_of files 1)) (λ m. m.names) rooms
  pub specialties_read : IsRead {X = List (List ℕ) × List (List ℕ)} (specialties_at (all_of files 2)) (λ m. (m.names, m.wards)) (specialties, wards)
  pub patients_read : HasNoFault (patients_at s.parts specialties (all_of files 3))
  pub stays_read : HasNoFault (stays_at s.parts specialties (all_of files 4))
  pub equipment_read : IsRead (equipment_at (all_of files 5)) (λ m. m.names) equipment
  pub needs_read : HasNoFault (needs_at specialties equipment (all_of files 6))
  pub unsuited_read : HasNoFault (unsuited_at specialties rooms (all_of files 7))
  pub fixed_read : HasNoFault (fixed_at s.days rooms specialties (all_of files 8))
  pub barred_read : HasNoFault (barred_at specialties s.days (all_of files 9))
  pub watch_good : watch_fault wards s.watch ≡ None

settings-are-read : (bytes : List ℕ) (s : Settings) → settings_fault bytes ≡ None → settings_in bytes ≡ s → settings_at bytes ≡ Ok s
unfolding settings_at
settings-are-read bytes s none is = rw none (ap (λ (t : Settings). Ok t) is)

-- files whose tables are read are accepted
passed : (s : Settings) (files specialties rooms wards equipment : List (List ℕ)) → settings_fault (get_or files 0 []) ≡ None → settings_in (get_or files 0 []) ≡ s
    → AreRead s files specialties rooms wards equipment → tables_fault files ≡ None
unfolding tables_at hospital_at blocks_at restrictions_at watched_at watch_at
passed s files specialties rooms wards equipment settings read p =
    let specialty_names : p.specialties_read.meaning.names ≡ specialties = ap (λ (m : List (List ℕ) × List (List ℕ)). m.0) p.specialties_read.seen_so in
    let ward_names : p.specialties_read.meaning.wards ≡ wards = ap (λ (m : List (List ℕ) × List (List ℕ)). m.1) p.specialties_read.seen_so in
    rw (
      settings-are-read (get_or files 0 []) s settings read,
      p.rooms_read.is,
      p.specialties_read.is,
      specialty_names,
      p.patients_read.is,
      p.stays_read.is,
      p.equipment_read.is,
      p.rooms_read.seen_so,
      p.equipment_read.seen_so,
      p.needs_read.is,
      p.unsuited_read.is,
      p.fixed_read.is,
      p.barred_read.is,
      ward_names,
      p.watch_good,
    ) refl

-- the records of the files, one by one
pub record AreRecords (files : List (List ℕ)) (shape : Shape) (all : List Specialty) (units : ℕ) : Type 0 where
  pub rooms_are : records_in (get_or files 1 []) ≡ rooms_header ∷ rooms_rows shape.rooms shape.days
  pub specialties_are : records_in (get_or files 2 []) ≡ specialties_header ∷ by_specialty (specialty_rows shape.wards) 1 all
  pub patients_are : records_in (get_or files 3 []) ≡ patients_header ∷ by_specialty patients_rows 1 all
  pub stays_are : records_in (get_or files 4 []) ≡ stays_header ∷ by_specialty stays_rows 1 all
  pub equipment_are : records_in (get_or files 5 []) ≡ equipment_header ∷ (codes "Scope" ∷ decimal units ∷ []) ∷ []
  pub needs_are : records_in (get_or files 6 []) ≡ needs_header ∷ by_specialty needs_rows 1 all
  pub unsuited_are : records_in (get_or files 7 []) ≡ unsuited_header ∷ by_specialty unsuited_rows 1 all
  pub fixed_are : records_in (get_or files 8 []) ≡ options_header ∷ []
  pub barred_are : records_in (get_or files 9 []) ≡ barred_header ∷ by_specialty barred_rows 1 all

-- the settings have the days of the shape, count chances in millionths, and watch all its wards
record AreSettled (s : Settings) (shape : Shape) : Type 0 where
  days : s.days ≡ shape.days
  parts : s.parts ≡ 1000000
  watched : watch_fault (names 87 shape.wards) s.watch ≡ None

settled : (size : Size) → AreSettled (settings_of size) (shape_of size)
unfolding watch_fault digits
settled size.Small = record { days = refl; parts = refl; watched = refl }
settled size.Middle = record { days = refl; parts = refl; watched = refl }
settled size.Large = record { days = refl; parts = refl; watched = refl }

all-read : (size : Size) (files : List (List ℕ)) (all : List Specialty) (units : ℕ) → AreDrawn (shape_of size) all units → AreRecords files (shape_of size) all units
    → AreRead (settings_of size) files (names 83 (length all)) (names 82 (shape_of size).rooms) (names 87 (shape_of size).wards) kinds
unfolding all_of
all-read size files all units drawn are =
    let limits = little size in
    let few : length all ≤ 8 = let count = drawn.count in let most = limits.few in omega arith in
    let some : 1 ≤ length all = let count = drawn.count in let least = limits.some in omega arith in
    let turns : (shape_of size).wards ≤ length all = let count = drawn.count in let most = limits.turns in omega arith in
    let days = (shape_of size).days in
    let rooms = (shape_of size).rooms in
    let wards = (shape_of size).wards in
    let settings = settled size in
    record {
      rooms_read = rw (settings.days, are.rooms_are) (rooms-good size);
      specialties_read = rw are.specialties_are (specialties-good days rooms wards all limits.wards some few turns drawn.each);
      patients_read = rw (settings.parts, are.patients_are) (patients-good days rooms all few drawn.each);
      stays_read = rw (settings.parts, are.stays_are) (stays-good days rooms all few drawn.each);
      equipment_read = rw are.equipment_are (equipment-good units drawn.units_few);
      needs_read = rw are.needs_are (needs-good days rooms all few drawn.each);
      unsuited_read = rw are.unsuited_are (unsuited-good days rooms all few limits.rooms drawn.each);
      fixed_read = rw are.fixed_are (fixed-good (settings_of size).days (names 82 rooms) (names 83 (length all)));
      barred_read = rw (settings.days, are.barred_are) (barred-good days rooms all few limits.days drawn.each);
      watch_good = settings.watched;
    }

-- the tables of few and short records
record AreShort (shape : Shape) (all : List Specialty) (units : ℕ) : Type 0 where
  rooms_short : list_all is_short (rooms_header ∷ rooms_rows shape.rooms shape.days) ≡ true
  specialties_short : list_all is_short (specialties_header ∷ by_specialty (specialty_rows shape.wards) 1 all) ≡ true
  patients_short : list_all is_short (patients_header ∷ by_specialty patients_rows 1 all) ≡ true
  stays_short : list_all is_short (stays_header ∷ by_specialty stays_rows 1 all) ≡ true
  equipment_short : list_all is_short (equipment_header ∷ (codes "Scope" ∷ decimal units ∷ []) ∷ []) ≡ true
  needs_short : list_all is_short (needs_header ∷ by_specialty needs_rows 1 all) ≡ true
  unsuited_short : list_all is_short (unsuited_header ∷ by_specialty unsuited_rows 1 all) ≡ true
  fixed_short : list_all is_short (options_header ∷ []) ≡ true
  barred_short : list_all is_short (barred_header ∷ by_specialty barred_rows 1 all) ≡ true

short-all : (size : Size) (all : List Specialty) (units : ℕ) → AreDrawn (shape_of size) all units → AreShort (shape_of size) all units
short-all size all units drawn =
    let limits = little size in
    let days = (shape_of size).days in
    let rooms = (shape_of size).rooms in
    let P = IsSound days rooms in
    let few : 1 + length all ≤ 8 + 1 = let count = drawn.count in let most = limits.few in omega arith in
    let each = drawn.each in
    record {
      rooms_short = rw (rooms-short size) refl;
      specialties_short = rw (short-by P (specialty_rows (shape_of size).wards) 8 (specialty-short days rooms (shape_of size).wards limits.wards) 1 all few each) refl;
      patients_short = rw (short-by P patients_rows 8 (patients-short days rooms) 1 all few each) refl;
      stays_short = rw (short-by P stays_rows 8 (stays-short days rooms) 1 all few each) refl;
      equipment_short = rw (short-number units (let most = drawn.units_few in omega arith)) refl;
      needs_short = rw (short-by P needs_rows 8 (needs-short days rooms) 1 all few each) refl;
      unsuited_short = rw (short-by P unsuited_rows 8 (unsuited-short days rooms limits.rooms) 1 all few each) refl;
      fixed_short = refl;
      barred_short = rw (short-by P barred_rows 8 (barred-short days rooms limits.days) 1 all few each) refl;
    }

records-are : (size : Size) (all : List Specialty) (units : ℕ) → AreDrawn (shape_of size) all units → AreRecords (files_of size all units) (shape_of size) all units
unfolding files_of tables_rows text_of strip_bom fields_text
records-are size all units drawn =
    let short = short-all size all units drawn in
    record {
      rooms_are = back (rooms_header ∷ rooms_rows (shape_of size).rooms (shape_of size).days) short.rooms_short refl;
      specialties_are = back (specialties_header ∷ by_specialty (specialty_rows (shape_of size).wards) 1 all) short.specialties_short refl;
      patients_are = back (patients_header ∷ by_specialty patients_rows 1 all) short.patients_short refl;
      stays_are = back (stays_header ∷ by_specialty stays_rows 1 all) short.stays_short refl;
      equipment_are = back (equipment_header ∷ (codes "Scope" ∷ decimal units ∷ []) ∷ []) short.equipment_short refl;
      needs_are = back (needs_header ∷ by_specialty needs_rows 1 all) short.needs_short refl;
      unsuited_are = back (unsuited_header ∷ by_specialty unsuited_rows 1 all) short.unsuited_short refl;
      fixed_are = back (options_header ∷ []) short.fixed_short refl;
      barred_are = back (barred_header ∷ by_specialty barred_rows 1 all) short.barred_short refl;
    }

settings-first : (size : Size) (all : List Specialty) (units : ℕ) → get_or (files_of size all units) 0 [] ≡ settings_text size
unfolding files_of
settings-first size all units = refl

-- whatever is drawn, the files are accepted
pub files-accepted : (size : Size) (all : List Specialty) (units : ℕ) → AreDrawn (shape_of size) all units → tables_fault (files_of size all units) ≡ None
files-accepted size all units drawn =
    let files = files_of size all units in
    let first = settings-first size all units in
    passed (settings_of size) files (names 83 (length all)) (names 82 (shape_of size).rooms) (names 87 (shape_of size).wards) kinds
    (rw first (settings-good size)) (rw first (settings-read size)) (all-read size files all units drawn (records-are size all units drawn))

-- the lengths of the files
within : (rows : List (List (List ℕ))) → list_all is_short rows ≡ true → length rows ≤ 1000 → length (text_of rows) ≤ 4194304
within rows short few = let most = text-length rows short in omega arith

-- each of some files is within the limit
abbrev Short : List (List ℕ) → Type 0
Short [] = ⊤
Short (bytes ∷ rest) = (length bytes ≤ 4194304) × Short rest

all-within : (files : List (List ℕ)) → Short files → AreWithin files
all-within [] short = All-nil (λ bytes. length bytes ≤ 4194304)
all-within (bytes ∷ rest) short = All-cons (λ bytes. length bytes ≤ 4194304) bytes rest short.0 (all-within rest short.1)

settings-within : (size : Size) → length (settings_text size) ≤ 4194304
settings-within size.Small = omega arith
settings-within size.Middle = omega arith
settings-within size.Large = omega arith

pub files-within : (size : Size) (all : List Specialty) (units : ℕ) → AreDrawn (shape_of size) all units → AreWithin (files_of size all units)
unfolding files_of tables_rows
files-within size all units drawn =
    let short = short-all size all units drawn in
    let limits = little size in
    let P = IsSound (shape_of size).days (shape_of size).rooms in
    let few : length all ≤ 8 = let count = drawn.count in let most = limits.few in omega arith in
    let each = drawn.each in
    let rooms = rooms-count size in
    let specialties = count-by P (specialty_rows (shape_of size).wards) 16 (λ i s good. omega arith) 1 all each in
    let patients = count-by P patients_rows 16 (λ i s good. omega arith) 1 all each in
    let stays = count-by P stays_rows 16 (stays-count (shape_of size).days (shape_of size).rooms) 1 all each in
    let needs = count-by P needs_rows 16 (needs-count (shape_of size).days (shape_of size).rooms) 1 all each in
    let unsuited = count-by P unsuited_rows 16 (unsuited-count (shape_of size).days (shape_of size).rooms limits.rooms) 1 all each in
    let barred = count-by P barred_rows 16 (barred-count (shape_of size).days (shape_of size).rooms) 1 all each in
    let rooms_text = within (rooms_header ∷ rooms_rows (shape_of size).rooms (shape_of size).days) short.rooms_short (omega arith) in
    let specialties_text = within (specialties_header ∷ by_specialty (specialty_rows (shape_of size).wards) 1 all) short.specialties_short (omega arith) in
    let patients_text = within (patients_header ∷ by_specialty patients_rows 1 all) short.patients_short (omega arith) in
    let stays_text = within (stays_header ∷ by_specialty stays_rows 1 all) short.stays_short (omega arith) in
    let equipment_text = within (equipment_header ∷ (codes "Scope" ∷ decimal units ∷ []) ∷ []) short.equipment_short (omega arith) in
    let needs_text = within (needs_header ∷ by_specialty needs_rows 1 all) short.needs_short (omega arith) in
    let unsuited_text = within (unsuited_header ∷ by_specialty unsuited_rows 1 all) short.unsuited_short (omega arith) in
    let fixed_text = within (options_header ∷ []) short.fixed_short (omega arith) in
    let barred_text = within (barred_header ∷ by_specialty barred_rows 1 all) short.barred_short (omega arith) in
    all-within (files_of size all units) (settings-within size, (rooms_text, (specialties_text, (patients_text, (stays_text, (equipment_text, (needs_text, (unsuited_text, (fixed_text, (barred_text, tt))))))))))
