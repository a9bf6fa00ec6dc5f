-- What words come to that are no command.
use Rattle.std.specs.Prelude.{◌≡◌, ℕ, ⊤, Bool, true, false, List}
use Rattle.mss_desk.specs.Desk.{Content}
use Rattle.mss_command.specs.declared.status.Status.{Status}
use Rattle.mss_command.specs.declared.status.Status.TheVariants as statuses
use Rattle.mss_command.specs.Outcome.{Outcome, saying}

-- this usage text is said
abbrev pub UsageDefines : List ℕ → Outcome → Type 0
UsageDefines text o = o ≡ saying statuses.Words text

abbrev pub usage_may_end : Status → Bool
usage_may_end statuses.Words = true
usage_may_end _ = false

-- the usage text promises nothing
abbrev pub NothingPromised : Status → Content → Content → Type 0
NothingPromised status c d = ⊤
