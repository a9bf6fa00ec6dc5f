-- The words of a question come to one outcome, and nothing lacks where all was read.
use Rattle.std.proofs.Common.{◌≡◌, ℕ, List, Option, Some, None, Result, Ok, Err, refl, sym, ap, ◌∙◌}
use Rattle.mss_model.specs.declared.faults.TableFault.{TableFault}
use Rattle.mss_model.specs.declared.parts.TableParts.{TableParts}
use Rattle.mss_desk.specs.Desk.{Files}
use Rattle.mss_tables.specs.TablesMeaning.{tables_at}
use Rattle.mss_command.specs.Fetched.{Fetched, Missing, Bytes}
use Rattle.mss_command.specs.Gathered.{AllRead, gathered}
use Rattle.mss_command.specs.Outcome.{Outcome}
use Rattle.mss_command.specs.Questions.{AskLacks, Asks, AsksRead, LacksRead, wanted}
use Rattle.mss_command.specs.Tables.{tables_gathered, tables_on}

-- under the same tables and file there is one answer
abbrev pub IsOneAnswer : (TableParts → Fetched → Outcome → Type 0) → Type 0
IsOneAnswer answers = (tables : TableParts) (file : Fetched) (o p : Outcome) → answers tables file o → answers tables file p → o ≡ p

module _ (answers : TableParts → Fetched → Outcome → Type 0) (one : IsOneAnswer answers) (o p : Outcome) where
  one_read : (reading : Option (Result TableParts TableFault)) (file : Fetched) → AsksRead answers reading file o → AsksRead answers reading file p → o ≡ p
  one_read (Some (Ok tables)) file a b = one tables file o p a b
  one_read (Some (Err fault)) file a b = a ∙ sym b
  one_read None file a b = absurd a

  pub one_outcome : (name : Option (List ℕ)) (limit : ℕ) (files : Files) → Asks answers name limit files o → Asks answers name limit files p → o ≡ p
  one_outcome name limit files a b = one_read (tables_on files) (wanted name limit files) a b

nothing_lacks_read : (reading : Option (Result TableParts TableFault)) (file : Fetched) (bytes : List ℕ) → (reading ≡ None → ⊥) → file ≡ Bytes bytes → LacksRead reading file → ⊥
nothing_lacks_read (Some (Ok tables)) file bytes there read missing = let both : Bytes bytes ≡ Missing = sym read ∙ missing in cc
nothing_lacks_read (Some (Err fault)) file bytes there read lacks = lacks
nothing_lacks_read None file bytes there read lacks = there refl

-- where the ten files and the file beside them were read, nothing lacks
pub nothing_lacks : (name : Option (List ℕ)) (limit : ℕ) (files : Files) (tables : List (List ℕ)) (bytes : List ℕ) → gathered files ≡ AllRead tables
    → wanted name limit files ≡ Bytes bytes → AskLacks name limit files → ⊥
nothing_lacks name limit files tables bytes all read lacks =
    nothing_lacks_read (tables_on files) (wanted name limit files) bytes
    (λ none. let both : Some (tables_at tables) ≡ None = sym (ap tables_gathered all) ∙ none in cc) read lacks
