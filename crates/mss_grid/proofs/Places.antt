-- The place of a row and a column is one of the grid.
use Rattle.std.proofs.Common.{◌<◌, ◌+◌, ◌*◌, ℕ, arith}
use Rattle.std.proofs.lemmas.Nat.{mul-add-lt}

pub place_within : (rows columns row column : ℕ) → row < rows → column < columns → row * columns + column < rows * columns
place_within rows columns row column h k = omega (arith, mul-add-lt row columns column rows h k)

pub ruleset places = (place_within)
