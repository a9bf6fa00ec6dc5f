-- The slots that count for one ward.
use Rattle.std.specs.Prelude.{◌≡◌, ℕ, ◌<◌, List, [], ◌∷◌, ◌++◌, length, slice_index}
use Rattle.std.specs.List.{All, AllPairs}
use Rattle.mss_model.specs.declared.parts.TableParts.{TableParts}
use Rattle.mss_census.specs.WardLists.{WardLists, slot_parts, parts_from, lists_of}

-- what some slots of a cycle add to a ward on a day, one after the other
abbrev pub parts_at : WardLists → ℕ → ℕ → List ℕ → List ℕ → List (List ℕ)
parts_at lists ward day options [] = []
parts_at lists ward day options (slot ∷ slots) =
    slot_parts lists ward day slot (slice_index options slot) ++ parts_at lists ward day options slots

-- These slots stand in order, and on each day they add to the ward all that any slot of the cycle adds.
pub record AreOwnSlots (tables : TableParts) (ward : ℕ) (options slots : List ℕ) : Type 0 where
  pub rising : AllPairs (λ a b. a < b) slots
  pub inside : All (λ slot. slot < length options) slots
  pub all_parts : (day : ℕ) → parts_at (lists_of tables) ward day options slots ≡ parts_from (lists_of tables) ward day 0 options
