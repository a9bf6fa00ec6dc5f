-- Records of a grid whose places rise are accepted.
use Rattle.std.proofs.Common.{◌≡◌, ◌<◌, ◌≤◌, ◌+◌, ◌*◌, ◌∷◌, ℕ, List, [], length, None, Result, Ok, Err, refl, arith}
use Rattle.std.specs.List.{flat_map}
use Rattle.std.proofs.lemmas.Bool.{ne_eqb}
use Rattle.mss_model.specs.declared.faults.Kind.{Kind}
use Rattle.mss_rows.specs.FirstRecord.{Pass}
use Rattle.mss_grid.specs.Grid.{Entry, entry_fault, value_at, value_for}
use Rattle.mss_grid.specs.EntryLaws.{entry-passes}
use Rattle.mss_gen.specs.Rows.{by_specialty}
use Rattle.mss_gen.specs.declared.specialty.Specialty.{Specialty}
use Rattle.mss_gen.proofs.BySpecialty.{Each, rising-by}
use Rattle.mss_gen.proofs.Passing.{Below, Rising, rising-pass}

-- the place that is read, and 0 where none is
abbrev pub place_read : Result (ℕ × ℕ) Kind → ℕ
place_read (Ok e) = e.0
place_read (Err fault) = 0

abbrev pub key : Entry → List (List ℕ) → ℕ
key read row = place_read (read row)

-- a record gives a place a value
pub record IsEntry (read : Entry) (row : List (List ℕ)) : Type 0 where
  pub place : ℕ
  pub value : ℕ
  pub reads : read row ≡ Ok (place, value)

other-place : (e : Result (ℕ × ℕ) Kind) (p : ℕ) → place_read e < p → value_for p e ≡ []
other-place (Err fault) p less = refl
other-place (Ok e) p less = rw (ne_eqb e.0 p (λ same. omega arith)) refl

-- records at lesser places give a place nothing
none-given : (read : Entry) (p : ℕ) (rows : List (List (List ℕ))) → Below (key read) p rows → flat_map (λ row. value_for p (read row)) rows ≡ []
none-given read p [] below = refl
none-given read p (r ∷ rest) below = rw (other-place (read r) p below.0) (none-given read p rest below.1)

fresh : (read : Entry) (before : List (List (List ℕ))) (row : List (List ℕ)) → Below (key read) (key read row) before → IsEntry read row → entry_fault read before row ≡ None
fresh read before row below is =
    let at : Below (key read) is.place before = rw is.reads at below in
    let free : value_at read before is.place ≡ None = rw (none-given read is.place before at) refl in
    entry-passes read before row is.place is.value is.reads free

-- records whose places rise within the specialty's own row of the grid are accepted
pub grid-pass : (read : Entry) (P : Specialty → Type 0) (rows : ℕ → Specialty → List (List (List ℕ))) (width : ℕ) (all : List Specialty)
    → ((i : ℕ) (s : Specialty) → i + 1 ≤ length all → P s → Rising (key read) (IsEntry read) (i * width) (rows (i + 1) s) ((i + 1) * width))
    → Each P all → Pass (entry_fault read) [] (by_specialty rows 1 all)
grid-pass read P rows width all own each =
    rising-pass (entry_fault read) (key read) (IsEntry read) (fresh read) (0 * width) ((0 + length all) * width) [] (by_specialty rows 1 all) tt
    (rising-by (key read) (IsEntry read) P rows width (length all) own 0 all (omega arith) each)
