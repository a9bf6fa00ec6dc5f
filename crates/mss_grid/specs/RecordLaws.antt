-- Records whose fields pass, and what they read.
use Rattle.std.proofs.Common.{◌≡◌, ◌+◌, ◌*◌, ℕ, List, [], ◌∷◌, Some, None, Ok, refl}
use Rattle.mss_grid.specs.ColumnLaws.{IsField}
use Rattle.mss_grid.specs.Columns.{Column}
use Rattle.mss_grid.specs.Grid.{entry}
use Rattle.mss_grid.specs.Record.{three_numbers, two_numbers}

pub two-read : (a b : Column) (x y : List ℕ) (i j : ℕ) → IsField a x i → IsField b y j → two_numbers a b (x ∷ (y ∷ [])) ≡ Ok (i, j)
unfolding two_numbers
two-read a b x y i j first second = rw (first.passes, second.passes, first.finds, second.finds) refl

pub three-read : (a b c : Column) (x y z : List ℕ) (i j k : ℕ) → IsField a x i → IsField b y j → IsField c z k → three_numbers a b c (x ∷ (y ∷ (z ∷ []))) ≡ Ok (record { first = i; second = j; third = k })
unfolding three_numbers
three-read a b c x y z i j k first second third = rw (first.passes, second.passes, third.passes, first.finds, second.finds, third.finds) refl

-- a record of a grid of marks, and one of a grid of values
pub mark-read : (row column : Column) (fields : List (List ℕ)) (i j : ℕ) → two_numbers row column fields ≡ Ok (i, j)
    → entry (record { row = row; column = column; value = None }) fields ≡ Ok (i * column.width + j, 1)
unfolding entry
mark-read row column fields i j reads = rw reads refl

pub value-read : (row column value : Column) (fields : List (List ℕ)) (i j v : ℕ) → three_numbers row column value fields ≡ Ok (record { first = i; second = j; third = v })
    → entry (record { row = row; column = column; value = Some value }) fields ≡ Ok (i * column.width + j, v)
unfolding entry
value-read row column value fields i j v reads = rw reads refl
