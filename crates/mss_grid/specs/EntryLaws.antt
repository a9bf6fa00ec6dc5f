-- What records give to places, and that a record of a free place has no fault.
use Rattle.std.proofs.Common.{◌≡◌, ◌≢◌, ℕ, List, [], ◌∷◌, ◌++◌, Some, None, Ok, refl}
use Rattle.std.specs.List.{flat_map}
use Rattle.std.proofs.lemmas.Bool.{eq-eqb, ne_eqb}
use Rattle.std.proofs.lemmas.Grind.{flat_map-append}
use Rattle.std.proofs.lemmas.List.{append-nil}
use Rattle.mss_grid.specs.Grid.{Entry, entry_fault, first, value_at, value_for}

first-none : (xs : List ℕ) → first xs ≡ None → xs ≡ []
first-none [] e = refl
first-none (x ∷ xs) e = cc e

-- a record gives its own place its value, and no other place one
pub gives-other : (read : Entry) (rows : List (List (List ℕ))) (row : List (List ℕ)) (q v p : ℕ) → read row ≡ Ok (q, v) → q ≢ p
    → value_at read (rows ++ (row ∷ [])) p ≡ value_at read rows p
gives-other read rows row q v p reads other =
    let none : value_for p (read row) ≡ [] = rw (reads, ne_eqb q p other) refl in
    rw (flat_map-append (λ r. value_for p (read r)) rows (row ∷ []), none, append-nil (flat_map (λ r. value_for p (read r)) rows)) refl

pub gives-own : (read : Entry) (rows : List (List (List ℕ))) (row : List (List ℕ)) (p v : ℕ) → read row ≡ Ok (p, v)
    → value_at read rows p ≡ None → value_at read (rows ++ (row ∷ [])) p ≡ Some v
gives-own read rows row p v reads free =
    let one : value_for p (read row) ≡ v ∷ [] = rw (reads, eq-eqb p p refl) refl in
    let none : flat_map (λ r. value_for p (read r)) rows ≡ [] = first-none (flat_map (λ r. value_for p (read r)) rows) free in
    rw (flat_map-append (λ r. value_for p (read r)) rows (row ∷ []), none, one) refl

-- a record of a free place has no fault
pub entry-passes : (read : Entry) (before : List (List (List ℕ))) (row : List (List ℕ)) (p v : ℕ) → read row ≡ Ok (p, v) → value_at read before p ≡ None
    → entry_fault read before row ≡ None
entry-passes read before row p v reads free = rw (reads, free) refl
