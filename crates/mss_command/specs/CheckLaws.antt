-- What a check of a text came to, that it is one outcome, and over which files it ends at status 0.
use Rattle.std.proofs.Common.{◌≡◌, ℕ, List, Some, inl, inr, refl, sym, ap, subst, ◌∙◌}
use Rattle.mss_model.specs.declared.parts.TableParts.{TableParts}
use Rattle.mss_desk.specs.Desk.{Files, Content}
use Rattle.mss_command.specs.declared.status.Status.{Status}
use Rattle.mss_command.specs.declared.status.Status.TheVariants as statuses
use Rattle.mss_command.specs.Answers.{Comes}
use Rattle.mss_command.specs.Checks.{ChecksText, Format, StoresGood}
use Rattle.mss_command.specs.Fetched.{Fetched, Missing, TooLong, Bytes}
use Rattle.mss_command.specs.GatheredLaws.{stored_gathered, stored_on}
use Rattle.mss_command.specs.OneOutcome.{nothing_lacks}
use Rattle.mss_command.specs.Outcome.{Outcome, saying}
use Rattle.mss_command.specs.Questions.{AskLacks, Asks, AsksRead, wanted}
use Rattle.mss_command.specs.QuestionLaws.{answered}

-- a refusal of the text doesn't end at status 0
pub not_refused : (o : Outcome) (text : List ℕ) → o ≡ saying statuses.Certificate text → o.status ≡ statuses.Done → ⊥
not_refused o text is done = let z : statuses.Certificate ≡ statuses.Done = sym (ap (λ o. o.status) is) ∙ done in cc

-- ---- of one text

-- bytes mean one value, or have one first fault
pub record IsOneToOne {T F : Type 0} (format : Format T F) : Type 0 where
  pub one_value : (bytes : List ℕ) (v w : T) → format.Means bytes v → format.Means bytes w → v ≡ w
  pub one_fault : (bytes : List ℕ) (f g : F) → format.IsFirst bytes f → format.IsFirst bytes g → f ≡ g
  pub not_both : (bytes : List ℕ) (v : T) (f : F) → format.Means bytes v → format.IsFirst bytes f → ⊥

module _ {T F : Type 0} (format : Format T F) (says : T → Outcome → Type 0) where
  -- what came at status 0 was said of the value that the file means
  pub text_answered : (file : Fetched) (o : Outcome) (P : Type 0) → ChecksText format says file o → o.status ≡ statuses.Done
      → ((bytes : List ℕ) (value : T) → file ≡ Bytes bytes → format.Means bytes value → says value o → P) → P
  text_answered Missing o P known done if_said = absurd known
  text_answered TooLong o P known done if_said = absurd (not_refused o _ known done)
  text_answered (Bytes bytes) o P (inl r) done if_said = if_said bytes r.value refl r.means r.said
  text_answered (Bytes bytes) o P (inr r) done if_said = absurd (not_refused o _ r.refuses done)

module _ {T F : Type 0} (format : Format T F) (says : T → Outcome → Type 0) (one : IsOneToOne format) where
  -- what is said where the bytes mean a value is said of it
  pub said_of : (bytes : List ℕ) (v : T) (o : Outcome) → format.Means bytes v → ChecksText format says (Bytes bytes) o → says v o
  said_of bytes v o means (inl r) = subst (λ w. says w o) (one.one_value bytes r.value v r.means means) r.said
  said_of bytes v o means (inr r) = absurd (one.not_both bytes v r.fault means r.first)

  -- where one outcome is said of each value, there is one
  pub text_is_one : ((v : T) (o p : Outcome) → says v o → says v p → o ≡ p) → (file : Fetched) (o p : Outcome)
      → ChecksText format says file o → ChecksText format says file p → o ≡ p
  text_is_one one_said Missing o p a b = absurd a
  text_is_one one_said TooLong o p a b = a ∙ sym b
  text_is_one one_said (Bytes bytes) o p (inl a) b = one_said a.value o p a.said (said_of bytes a.value p a.means b)
  text_is_one one_said (Bytes bytes) o p (inr r) (inl b) = absurd (one.not_both bytes b.value r.fault b.means r.first)
  text_is_one one_said (Bytes bytes) o p (inr r) (inr s) =
      r.refuses ∙ ap (λ f. saying statuses.Certificate (format.fault_text f)) (one.one_fault bytes r.fault s.fault r.first s.first) ∙ sym s.refuses

-- ---- over files

module _ (name : List ℕ) (limit : ℕ) (IsGood : TableParts → List ℕ → Type 0) (answers : TableParts → Fetched → Outcome → Type 0) where
  -- a question ends at status 0 only where a good file is stored, if each answer that ends so shows its file to be good
  pub only_good : ((tables : TableParts) (file : Fetched) (o : Outcome) → answers tables file o → o.status ≡ statuses.Done
      → (bytes : List ℕ) × (file ≡ Bytes bytes) × IsGood tables bytes)
      → (files : Files) (o : Outcome) → Asks answers (Some name) limit files o → o.status ≡ statuses.Done → StoresGood name limit IsGood files
  only_good shows files o known done =
      answered answers files o (StoresGood name limit IsGood files) (Some name) limit known done
      (λ tables stored answer.
      let p = shows tables (wanted (Some name) limit files) o answer done in record { tables = tables; stored = stored; bytes = p.0; read = p.1; good = p.2 })

  -- where a good file is stored, the question comes to an answer to it
  pub good_answered : (files : Files) (s : StoresGood name limit IsGood files) (o : Outcome) → Asks answers (Some name) limit files o → answers s.tables (Bytes s.bytes) o
  good_answered files s o known =
      subst (λ f. answers s.tables f o) s.read
      (subst (λ r. AsksRead answers r (wanted (Some name) limit files) o) (stored_on files s.tables s.stored) known)

  -- and so does what comes where nothing failed and memory was found
  pub good_comes : (c : Content) (s : StoresGood name limit IsGood c.files) (status : Status) → Comes (Asks answers (Some name) limit) (AskLacks (Some name) limit) status c
      → (o : Outcome) × answers s.tables (Bytes s.bytes) o × (status ≡ o.status)
  good_comes c s status (inl lacking) =
      absurd (nothing_lacks (Some name) limit c.files s.stored.bytes s.bytes (stored_gathered c.files s.tables s.stored) s.read lacking.0)
  good_comes c s status (inr p) = (p.0, good_answered c.files s p.0 p.1, p.2)
