-- What an outcome that puts no file leaves keeps such a promise.
use Rattle.std.proofs.Common.{◌≡◌, ℕ, List, [], ap, ◌∙◌}
use Rattle.mss_desk.specs.Desk.{Files, Content}
use Rattle.mss_command.specs.declared.status.Status.TheVariants as statuses
use Rattle.mss_command.specs.Outcome.{Did, Outcome, put_all}
use Rattle.mss_command.specs.Promised.{SaysOnly}

pub says_only : (Means : Files → List ℕ → Type 0) (o : Outcome) (c d : Content) → Did o c d
    → (o.status ≡ statuses.Done → Means c.files o.text × (o.puts ≡ [])) → SaysOnly Means o.status c d
says_only Means o c d did so done = let p = so done in (o.text, did.said, did.files ∙ ap (λ ps. put_all ps c.files) p.1, p.0)
