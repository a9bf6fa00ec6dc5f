-- What a question comes to, from what was made of the tables and its own file as it was read.
use Rattle.std.proofs.Common.{◌≡◌, ◌≤◌, ◌⊎◌, ℕ, List, [], Bool, Option, Some, None, Result, Ok, Err, inl, inr, refl, sym, ap, subst, ◌∙◌, arith}
use Rattle.std.specs.Prelude.{IfOk, IsTrue}
use Rattle.mss_model.specs.PartsOf.{parts_of}
use Rattle.mss_model.specs.declared.parts.TableParts.{TableParts}
use Rattle.mss_model.specs.declared.table_set.Tables.{Tables}
use Rattle.mss_desk.specs.Desk.{Content, IfTold, IsMissing, Rose, Seen}
use Rattle.mss_command.specs.declared.reply.Reply.{Reply}
use Rattle.mss_command.specs.declared.reply.Stop.{Stop}
use Rattle.mss_command.specs.declared.status.Status.{Status}
use Rattle.mss_command.specs.declared.status.Status.TheVariants as statuses
use Rattle.mss_command.specs.declared.tables.Judged.TheVariants as judged
use Rattle.mss_command.specs.Answers.{IsLacking, Prepares}
use Rattle.mss_command.specs.Fetched.{Fetched, Bytes, within}
use Rattle.mss_command.specs.Gathered.{IsOneMissing, gathered}
use Rattle.mss_command.specs.Judging.{Judges}
use Rattle.mss_command.specs.Outcome.{Outcome, outcome_of}
use Rattle.mss_command.specs.Questions.{AskLacks, Asks, AsksRead, AsksUnder, LacksRead, WantedLacks, may_end_asking, wanted}
use Rattle.mss_command.specs.Status.{ends_by}
use Rattle.mss_command.specs.Tables.{tables_gathered}

-- a status of an answer is one of the question
pub ends_asking : (may_answer : Status → Bool) (status : Status) → IsTrue (ends_by may_answer status) → IsTrue (ends_by (may_end_asking may_answer) status)
ends_asking may_answer statuses.Done h = h
ends_asking may_answer statuses.Words h = h
ends_asking may_answer statuses.Tables h = refl
ends_asking may_answer statuses.Cycle h = h
ends_asking may_answer statuses.Certificate h = h
ends_asking may_answer statuses.NoCycle h = h
ends_asking may_answer statuses.SpentWithCycle h = h
ends_asking may_answer statuses.SpentWithout h = h
ends_asking may_answer statuses.ReadFault h = h
ends_asking may_answer statuses.WriteFault h = h
ends_asking may_answer statuses.NoMemory h = h

-- ---- its own file

-- a file that isn't there is one that a question lacks
pub wanted_cause : (first now : ℕ) (name : List ℕ) (limit : ℕ) (t : Option Content) → Rose first now ⊎ IsMissing t name
    → Rose first now ⊎ IsLacking (WantedLacks (Some name) limit) t
wanted_cause first now name limit t (inl rose) = inl rose
wanted_cause first now name limit (Some c) (inr missing) = inr (ap (within limit) missing)
wanted_cause first now name limit None (inr missing) = absurd missing

-- where no file is wanted, no bytes are read
pub no_bytes : (t : Option Content) (limit : ℕ) (bytes : List ℕ) → bytes ≡ [] → IfTold t (λ c. wanted None limit c.files ≡ Bytes bytes)
no_bytes (Some c) limit bytes none = ap Bytes (sym none)
no_bytes None limit bytes none = tt

-- an answer to a file as it was read is one over the files of the desk, which tells the same
pub answered_under : (answers : TableParts → Fetched → Outcome → Type 0) (tables : TableParts) (name : Option (List ℕ)) (limit : ℕ) (t : Option Content) (file : Fetched) (o : Outcome)
    → IfTold t (λ c. wanted name limit c.files ≡ file) → answers tables file o → IfTold t (λ c. AsksUnder answers tables name limit c.files o)
answered_under answers tables name limit (Some c) file o read known = subst (λ f. answers tables f o) (sym read) known
answered_under answers tables name limit None file o read known = tt

-- ---- the tables

module _ (answers : TableParts → Fetched → Outcome → Type 0) (name : Option (List ℕ)) (limit : ℕ) where
  -- the tables are refused
  pub refused : (t : Option Content) (reply : Reply) → IfTold t (λ c. Judges (gathered c.files) (judged.Refused reply))
      → IfTold t (λ c. Asks answers name limit c.files (outcome_of reply))
  refused (Some c) reply r = subst (λ reading. AsksRead answers reading (wanted name limit c.files) (outcome_of reply)) (sym r.first) r.refuses
  refused None reply r = tt

  -- one of their files isn't there
  pub one_lacking : (first now : ℕ) (t : Option Content) → Rose first now ⊎ IsOneMissing t → Rose first now ⊎ IsLacking (AskLacks name limit) t
  one_lacking first now t (inl rose) = inl rose
  one_lacking first now (Some c) (inr missing) = inr (subst (λ g. LacksRead (tables_gathered g) (wanted name limit c.files)) (sym missing) tt)
  one_lacking first now None (inr missing) = absurd missing

  module _ (tables : Tables) where
    -- what is answered under the tables is what the question comes to
    defined : (t : Option Content) (r : Result Reply Stop) → IfTold t (λ c. Judges (gathered c.files) (judged.Tables tables))
        → IfTold t (λ c. IfOk r (λ reply. AsksUnder answers (parts_of tables) name limit c.files (outcome_of reply)))
        → IfTold t (λ c. IfOk r (λ reply. Asks answers name limit c.files (outcome_of reply)))
    defined (Some c) (Ok reply) h known = subst (λ reading. AsksRead answers reading (wanted name limit c.files) (outcome_of reply)) (sym h) known
    defined (Some c) (Err stop) h known = tt
    defined None r h known = tt

    -- the file of the question isn't there
    lacking : (t : Option Content) → IfTold t (λ c. Judges (gathered c.files) (judged.Tables tables)) → IsLacking (WantedLacks name limit) t → IsLacking (AskLacks name limit) t
    lacking (Some c) h missing = subst (λ reading. LacksRead reading (wanted name limit c.files)) (sym h) missing
    lacking None h missing = missing

    file_cause : (t : Option Content) (first before now : ℕ) → first ≤ before → IfTold t (λ c. Judges (gathered c.files) (judged.Tables tables))
        → Rose before now ⊎ IsLacking (WantedLacks name limit) t → Rose first now ⊎ IsLacking (AskLacks name limit) t
    file_cause t first before now less h (inl rose) = inl (omega arith)
    file_cause t first before now less h (inr missing) = inr (lacking t h missing)

    ends : (may_answer : Status → Bool) (r : Result Reply Stop) → IfOk r (λ reply. IsTrue (ends_by may_answer reply.status))
        → IfOk r (λ reply. IsTrue (ends_by (may_end_asking may_answer) reply.status))
    ends may_answer (Ok reply) h = ends_asking may_answer reply.status h
    ends may_answer (Err stop) h = tt

    -- a question comes to its answer under the tables, where the desk told the same after they were gathered
    pub asked : (may_answer : Status → Bool) (first before after : Seen) (r : Result Reply Stop) → IfTold first.told (λ c. Judges (gathered c.files) (judged.Tables tables))
        → before.told ≡ first.told → before.write_faults ≡ first.write_faults → first.read_faults ≤ before.read_faults
        → Prepares (AsksUnder answers (parts_of tables) name limit) (WantedLacks name limit) may_answer before after r
        → Prepares (Asks answers name limit) (AskLacks name limit) (may_end_asking may_answer) first after r
    asked may_answer first before after r h told writes less p = record {
      reply = defined first.told r h (subst (λ t. IfTold t (λ c. IfOk r (λ reply. AsksUnder answers (parts_of tables) name limit c.files (outcome_of reply)))) told p.reply);
      status = ends may_answer r p.status;
      content = p.content ∙ told;
      write_faults = p.write_faults ∙ writes;
      later = omega (arith, less, p.later);
      cause = λ failed. file_cause first.told first.read_faults before.read_faults after.read_faults less h
          (subst (λ t. Rose before.read_faults after.read_faults ⊎ IsLacking (WantedLacks name limit) t) told (p.cause failed));
    }
