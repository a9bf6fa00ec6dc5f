-- What commands promise that put no file.
use Rattle.std.specs.Prelude.{◌≡◌, ℕ, List, ◌++◌}
use Rattle.mss_desk.specs.Desk.{Files, Content}
use Rattle.mss_command.specs.declared.status.Status.{Status}
use Rattle.mss_command.specs.declared.status.Status.TheVariants as statuses

-- at status 0 the files are as before, and a text was said that has this meaning over them
abbrev pub SaysOnly : (Files → List ℕ → Type 0) → Status → Content → Content → Type 0
SaysOnly Means status c d = status ≡ statuses.Done
    → (text : List ℕ) × (d.said ≡ c.said ++ text) × (d.files ≡ c.files) × Means c.files text
