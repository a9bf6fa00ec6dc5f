-- What floors end as, once a list that they showed is let go.
use Rattle.std.specs.Prelude.{◌≡◌, ℕ, ⊤, List}
use Rattle.std.specs.Borrow.{Fml, MutBor, follows_so}
use mathlib.Core.Option.{none}
use Rattle.mss_floor.specs.contracts.floors.Floors.{the_row}

-- they are as they were
abbrev pub StaysSame : MutBor (List (List (List ℕ))) → Fml
StaysSame m = follows_so the_row the_row m.ghost_name none (λ _ _. ⊤) (λ v. v ≡ m.now)
