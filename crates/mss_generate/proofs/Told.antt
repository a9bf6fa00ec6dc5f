-- What holds of any content holds where one is told.
use Rattle.std.proofs.Common.{Option, Some, None}
use Rattle.mss_desk.specs.Desk.{Content, IfTold}

pub told : (t : Option Content) (P : Type 0) → P → IfTold t (λ c. P)
told (Some c) P p = p
told None P p = tt
