-- The usage text promises nothing.
use Rattle.std.specs.Prelude.{ℕ, List}
use Rattle.mss_desk.specs.Desk.{Content}
use Rattle.mss_command.specs.Outcome.{Did, Outcome}
use Rattle.mss_command.specs.Usage.{NothingPromised, UsageDefines}

pub usage_keeps : (text : List ℕ) (o : Outcome) (c d : Content) → UsageDefines text o → Did o c d → NothingPromised o.status c d
usage_keeps text o c d is did = tt
