-- What a question came to keeps what its answers keep.
use Rattle.std.proofs.Common.{◌≡◌, ℕ, List, Option, Some, None, Result, Ok, Err, refl, sym, ap, ◌∙◌}
use Rattle.mss_model.specs.declared.faults.TableFault.{TableFault}
use Rattle.mss_model.specs.declared.parts.TableParts.{TableParts}
use Rattle.mss_desk.specs.Desk.{Files}
use Rattle.mss_command.specs.declared.status.Status.TheVariants as statuses
use Rattle.mss_command.specs.Fetched.{Fetched}
use Rattle.mss_command.specs.GatheredLaws.{on_stored}
use Rattle.mss_command.specs.Outcome.{Outcome}
use Rattle.mss_command.specs.Questions.{Asks, AsksRead, wanted}
use Rattle.mss_command.specs.Tables.{StoresTables, tables_on}

-- a refusal of the tables doesn't end at status 0
pub not_tables : (o : Outcome) → o.status ≡ statuses.Tables → o.status ≡ statuses.Done → ⊥
not_tables o refused done = let z : statuses.Tables ≡ statuses.Done = sym refused ∙ done in cc

module _ (answers : TableParts → Fetched → Outcome → Type 0) (files : Files) (o : Outcome) (P : Type 0) where
  by_reading : (reading : Option (Result TableParts TableFault)) (file : Fetched) → tables_on files ≡ reading → AsksRead answers reading file o
      → (o.status ≡ statuses.Tables → P) → ((tables : TableParts) → StoresTables files tables → answers tables file o → P) → P
  by_reading (Some (Ok tables)) file on known if_refused if_answered = if_answered tables (on_stored files tables on) known
  by_reading (Some (Err fault)) file on known if_refused if_answered = if_refused (ap (λ o. o.status) known)
  by_reading None file on known if_refused if_answered = absurd known

  -- what a question came to is a refusal of the tables, or its answer under the tables that are stored
  pub answered_or_refused : (name : Option (List ℕ)) (limit : ℕ) → Asks answers name limit files o → (o.status ≡ statuses.Tables → P)
      → ((tables : TableParts) → StoresTables files tables → answers tables (wanted name limit files) o → P) → P
  answered_or_refused name limit known if_refused if_answered = by_reading (tables_on files) (wanted name limit files) refl known if_refused if_answered

  -- at status 0 it is that answer
  pub answered : (name : Option (List ℕ)) (limit : ℕ) → Asks answers name limit files o → o.status ≡ statuses.Done
      → ((tables : TableParts) → StoresTables files tables → answers tables (wanted name limit files) o → P) → P
  answered name limit known done if_answered = answered_or_refused name limit known (λ refused. absurd (not_tables o refused done)) if_answered
