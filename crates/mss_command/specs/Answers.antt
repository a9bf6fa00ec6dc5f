-- What the end of a command says of its desk, by what the command defines and what it lacks.
use Rattle.std.specs.Prelude.{◌≡◌, ◌⊎◌, ◌≤◌, Bool, Option, Some, None, Result, Err, IfOk, IsTrue}
use Rattle.mss_desk.specs.Desk.{Files, Content, Seen, IfTold, BothTold, Rose}
use Rattle.mss_command.specs.declared.status.Status.{Status}
use Rattle.mss_command.specs.declared.status.Status.TheVariants as statuses
use Rattle.mss_command.specs.declared.reply.Reply.{Reply}
use Rattle.mss_command.specs.declared.reply.Stop.{Stop}
use Rattle.mss_command.specs.declared.reply.Stop.TheVariants as stops
use Rattle.mss_command.specs.Status.{ends_by, is_plain}
use Rattle.mss_command.specs.Outcome.{Outcome, outcome_of, Did, DidFirst, DidPartly}

-- the content is told, and a file that the command reads isn't there
abbrev pub IsLacking : (Files → Type 0) → Option Content → Type 0
IsLacking lacks (Some c) = lacks c.files
IsLacking lacks None = ⊥

-- an outcome with this status is put and said
abbrev pub Answered : (Files → Outcome → Type 0) → Status → Content → Content → Type 0
Answered defines status c d = (o : Outcome) × defines c.files o × (status ≡ o.status) × Did o c d

-- some of an outcome is put and said
abbrev pub AnsweredPartly : (Files → Outcome → Type 0) → Content → Content → Type 0
AnsweredPartly defines c d = (o : Outcome) × defines c.files o × DidPartly o c d

-- nothing is put or said, or the first few files of an outcome are put
abbrev pub AnsweredFirst : (Files → Outcome → Type 0) → Content → Content → Type 0
AnsweredFirst defines c d = (d ≡ c) ⊎ ((o : Outcome) × defines c.files o × DidFirst o c d)

-- the status that a command comes to over these files
abbrev pub Comes : (Files → Outcome → Type 0) → (Files → Type 0) → Status → Content → Type 0
Comes defines lacks status c =
    (lacks c.files × (status ≡ statuses.ReadFault)) ⊎ ((o : Outcome) × defines c.files o × (status ≡ o.status))

-- what a command comes to is read, and the desk is as before but for faults of reading
pub record Prepares (defines : Files → Outcome → Type 0) (lacks : Files → Type 0) (may_end : Status → Bool) (before after : Seen) (result : Result Reply Stop) : Type 0 where
  pub reply : IfTold before.told (λ c. IfOk result (λ r. defines c.files (outcome_of r)))
  pub status : IfOk result (λ r. IsTrue (ends_by may_end r.status))
  pub content : after.told ≡ before.told
  pub write_faults : after.write_faults ≡ before.write_faults
  pub later : before.read_faults ≤ after.read_faults
  pub cause : result ≡ Err stops.Read → Rose before.read_faults after.read_faults ⊎ IsLacking lacks before.told

-- at a plain status an outcome of the command over these files is put and said, whatever failed
abbrev pub EndsPlainly : (Files → Outcome → Type 0) → Seen → Seen → Status → Type 0
EndsPlainly defines before after status = IsTrue (is_plain status) → BothTold before.told after.told (Answered defines status)

-- at a plain status the contents before and after are as promised, whatever failed
abbrev pub KeepsPromise : (Status → Content → Content → Type 0) → Seen → Seen → Status → Type 0
KeepsPromise promised before after status = IsTrue (is_plain status) → BothTold before.told after.told (promised status)

-- the status is one with which the command may end, where nothing failed and no memory was wanting
abbrev pub EndsAs : (Status → Bool) → Status → Type 0
EndsAs may_end status = IsTrue (is_plain status) → IsTrue (may_end status)

-- a failed read: the count rose, or a file isn't there; nothing was put or said
abbrev pub EndsInReadFault : (Files → Type 0) → Seen → Seen → Status → Type 0
EndsInReadFault lacks before after status = status ≡ statuses.ReadFault
    → (Rose before.read_faults after.read_faults ⊎ IsLacking lacks before.told) × (after.told ≡ before.told)

-- a failed put or say: the count rose; some of an outcome was put and said
abbrev pub EndsInWriteFault : (Files → Outcome → Type 0) → Seen → Seen → Status → Type 0
EndsInWriteFault defines before after status = status ≡ statuses.WriteFault
    → Rose before.write_faults after.write_faults × BothTold before.told after.told (AnsweredPartly defines)

-- want of memory: the first few files are put, and nothing is said
abbrev pub EndsForMemory : (Files → Outcome → Type 0) → Seen → Seen → Status → Type 0
EndsForMemory defines before after status = status ≡ statuses.NoMemory → BothTold before.told after.told (AnsweredFirst defines)

-- where nothing failed, the status is that of the command over these files, or memory was wanting
abbrev pub IsComplete : (Files → Outcome → Type 0) → (Files → Type 0) → Seen → Seen → Status → Type 0
IsComplete defines lacks before after status = ¬ (Rose before.read_faults after.read_faults) → ¬ (Rose before.write_faults after.write_faults)
    → IfTold before.told (λ c. (status ≡ statuses.NoMemory) ⊎ Comes defines lacks status c)
