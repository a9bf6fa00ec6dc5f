-- What a command comes to, from what its calls gave.
use Rattle.std.proofs.Common.{◌≡◌, ◌≤◌, ◌⊎◌, Bool, Option, Some, None, Result, Ok, Err, sym, subst, ◌∙◌}
use Rattle.std.specs.Prelude.{⊤, IsTrue}
use Rattle.mss_desk.specs.Desk.{Files, Content, Seen, IfTold, Rose}
use Rattle.mss_command.specs.declared.reply.Reply.{Reply}
use Rattle.mss_command.specs.declared.reply.Stop.{Stop}
use Rattle.mss_command.specs.declared.reply.Stop.TheVariants as stops
use Rattle.mss_command.specs.declared.status.Status.{Status}
use Rattle.mss_command.specs.declared.status.Status.TheVariants as statuses
use Rattle.mss_command.specs.Answers.{IsLacking, Prepares}
use Rattle.mss_command.specs.Outcome.{Outcome, outcome_of}
use Rattle.mss_command.specs.Status.{ends_by}

-- why a call failed is passed on
pub stop_is : {T : Type 0} (r : Result T Stop) (e x s : Stop) → r ≡ Err e → e ≡ x → r ≡ Err s → x ≡ s
stop_is r e x s is same failed = let z : Err e ≡ Err s = sym is ∙ failed in cc

pub no_read : stops.Memory ≡ stops.Read → ⊥
no_read e = cc

always : (t : Option Content) → IfTold t (λ c. ⊤)
always (Some c) = tt
always None = tt

module _ (may_end : Status → Bool) where
  -- a status with which a command ends is no fault and no want of memory
  pub is_ending : (s : Status) → IsTrue (ends_by may_end s) → IsTrue (may_end s)
  is_ending statuses.Done h = h
  is_ending statuses.Words h = h
  is_ending statuses.Tables h = h
  is_ending statuses.Cycle h = h
  is_ending statuses.Certificate h = h
  is_ending statuses.NoCycle h = h
  is_ending statuses.SpentWithCycle h = h
  is_ending statuses.SpentWithout h = h
  is_ending statuses.ReadFault h = absurd (cc)
  is_ending statuses.WriteFault h = absurd (cc)
  is_ending statuses.NoMemory h = absurd (cc)

  pub no_read_fault : (s : Status) → IsTrue (ends_by may_end s) → s ≡ statuses.ReadFault → ⊥
  no_read_fault s h e = let z : IsTrue (ends_by may_end statuses.ReadFault) = subst (λ s. IsTrue (ends_by may_end s)) e h in cc

  pub no_write_fault : (s : Status) → IsTrue (ends_by may_end s) → s ≡ statuses.WriteFault → ⊥
  no_write_fault s h e = let z : IsTrue (ends_by may_end statuses.WriteFault) = subst (λ s. IsTrue (ends_by may_end s)) e h in cc

  pub no_want : (s : Status) → IsTrue (ends_by may_end s) → s ≡ statuses.NoMemory → ⊥
  no_want s h e = let z : IsTrue (ends_by may_end statuses.NoMemory) = subst (λ s. IsTrue (ends_by may_end s)) e h in cc

module _ (defines : Files → Outcome → Type 0) (lacks : Files → Type 0) (may_end : Status → Bool) where
  -- a command comes to a reply
  pub replied : (before after : Seen) (r : Reply) → IfTold before.told (λ c. defines c.files (outcome_of r)) → IsTrue (ends_by may_end r.status)
      → after.told ≡ before.told → after.write_faults ≡ before.write_faults → before.read_faults ≤ after.read_faults
      → Prepares defines lacks may_end before after (Ok r)
  replied before after r known ends told writes later = record {
    reply = known;
    status = ends;
    content = told;
    write_faults = writes;
    later = later;
    cause = λ failed. absurd (cc);
  }

  -- a command comes to no reply, for this cause
  pub stopped : (before after : Seen) (result : Result Reply Stop) (e x : Stop) → result ≡ Err e → e ≡ x
      → after.told ≡ before.told → after.write_faults ≡ before.write_faults → before.read_faults ≤ after.read_faults
      → (x ≡ stops.Read → Rose before.read_faults after.read_faults ⊎ IsLacking lacks before.told) → Prepares defines lacks may_end before after result
  stopped before after (Ok reply) e x is same told writes later cause = absurd (cc)
  stopped before after (Err stop) e x is same told writes later cause = record {
    reply = always before.told;
    status = tt;
    content = told;
    write_faults = writes;
    later = later;
    cause = λ failed. cause (stop_is {T = Reply} (Err stop) e x stops.Read is same failed);
  }
