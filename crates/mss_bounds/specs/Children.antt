-- The children of a prefix, and the low numbers of the one whose last slot is idle.
use Rattle.std.specs.Prelude.{◌≡◌, ℕ, ◌-◌, ◌<◌, List, [], ◌∷◌, ◌++◌, length, take, get_or, slice_index}
use Rattle.mss_model.specs.declared.parts.TableParts.{TableParts}
use Rattle.mss_floor.specs.ForcedBlocks.{AreForced}
use Rattle.mss_pctl.specs.Peaks.{peak_places}
use Rattle.mss_bounds.specs.declared.idle_child.IdleChild.{IdleChild}
use Rattle.mss_bounds.specs.PrefixBound.{low_number}

-- a prefix without its last option
abbrev pub parent_of : List ℕ → List ℕ
parent_of child = take (length child - 1) child

-- the child of the same prefix whose last slot is idle
abbrev pub idle_sibling : List ℕ → List ℕ
idle_sibling child = parent_of child ++ 0 ∷ []

-- These are the low numbers of a prefix at the watched wards and all days, in their order.
abbrev pub AreLows : (TableParts → List ℕ → ℕ → ℕ → List ℕ) → (List ℕ → ℕ → ℕ) → TableParts → List ℕ → List ℕ → Type 0
AreLows list_at low_of t prefix lows = (i : ℕ) → i < length (peak_places t)
    → slice_index lows i ≡ low_number list_at low_of t prefix (get_or (peak_places t) i (record { ward = 0; day = 0 }))

-- This is what is known of a prefix whose last slot is idle.
pub record IsIdleChild (list_at : TableParts → List ℕ → ℕ → ℕ → List ℕ) (low_of : List ℕ → ℕ → ℕ) (t : TableParts) (prefix : List ℕ) (idle : IdleChild) : Type 0 where
  pub lows : AreLows list_at low_of t prefix idle.lows
  pub blocks : AreForced t prefix idle.blocks
