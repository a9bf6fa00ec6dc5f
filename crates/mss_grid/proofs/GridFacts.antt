-- The cells that are read of a grid are the values of its places.
use Rattle.std.proofs.Common.{◌≡◌, ◌<◌, ◌+◌, ◌∷◌, ℕ, List, [], Option, None, Ok, length, get_or, map, suc, refl, arith}
use Rattle.std.specs.List.{range_with_len}
use Rattle.mss_rows.specs.FirstFault.{body_of, file_fault}
use Rattle.mss_grid.specs.Grid.{Entry, Grid, Holds, bound, entry, entry_fault, grid_at, size, value_at, values_of}

same-list : (cells : List (Option ℕ)) (f : ℕ → Option ℕ) (a : ℕ) → ((k : ℕ) → k < length cells → get_or cells k None ≡ f (a + k)) → map f (range_with_len a (length cells)) ≡ cells
same-list [] f a same = refl
same-list (cell ∷ cells) f a same =
    let here : cell ≡ f a = let e : a + 0 ≡ a = omega arith in rw e at (same 0 (omega arith)) in
    rw (← here, same-list cells f (a + 1) (λ k h. let e : a + suc k ≡ (a + 1) + k = omega arith in rw e at (same (suc k) (omega arith)))) refl

-- the cells are the values of all places
pub listed : (read : Entry) (places most : ℕ) (cells : List (Option ℕ)) (rows : List (List (List ℕ))) → Holds read places most cells rows → length cells ≡ places → values_of read places rows ≡ cells
listed read places most cells rows holds full =
    rw (← full) (same-list cells (value_at read rows) 0 (λ k h. let e : 0 + k ≡ k = omega arith in let below : k < places = omega arith in rw e (holds.given k below)))

-- a file of a grid without a fault
pub grid-read : (header : List (List ℕ)) (grid : Grid) (all : List (List (List ℕ))) (cells : List (Option ℕ)) → file_fault header (entry_fault (entry grid)) all ≡ None
    → Holds (entry grid) (size grid) (bound grid.value) cells (body_of all) → length cells ≡ size grid → grid_at header grid all ≡ Ok cells
unfolding grid_at
grid-read header grid all cells none holds full = rw (none, listed (entry grid) (size grid) (bound grid.value) cells (body_of all) holds full) refl
