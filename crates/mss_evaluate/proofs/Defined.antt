-- What a file that was read defines, over what the desk tells.
use Rattle.std.proofs.Common.{◌≡◌, Option, Some, None, sym, subst}
use Rattle.mss_desk.specs.Desk.{Content, IfTold}
use Rattle.mss_command.specs.Fetched.{Fetched}

pub defined : (t : Option Content) (read : Content → Fetched) (given : Fetched) (P : Fetched → Type 0)
    → IfTold t (λ c. read c ≡ given) → P given → IfTold t (λ c. P (read c))
defined (Some c) read given P same holds = subst P (sym same) holds
defined None read given P same holds = tt
