-- What is delivered of a reply is an answer of the command, and keeps its promise.
use Rattle.std.proofs.Common.{◌≡◌, ◌⊎◌, ℕ, Option, Some, None, inl, inr, refl, subst}
use Rattle.mss_desk.specs.Desk.{Files, Content, IfTold, BothTold, Rose}
use Rattle.mss_command.specs.Answers.{Answered, AnsweredFirst, AnsweredPartly, Comes, IsLacking}
use Rattle.mss_command.specs.Outcome.{Outcome, Did, DidFirst, DidPartly}
use Rattle.mss_command.specs.declared.status.Status.{Status}
use Rattle.mss_command.specs.declared.status.Status.TheVariants as statuses

module _ (defines : Files → Outcome → Type 0) (o : Outcome) where
  partly : (t v : Option Content) → IfTold t (λ c. defines c.files o) → BothTold t v (DidPartly o) → BothTold t v (AnsweredPartly defines)
  partly (Some c) (Some d) known did = (o, known, did)
  partly (Some c) None known did = did
  partly None (Some d) known did = did
  partly None None known did = did

  pub answered_partly : (t u v : Option Content) → u ≡ t → IfTold t (λ c. defines c.files o) → BothTold u v (DidPartly o) → BothTold t v (AnsweredPartly defines)
  answered_partly t u v same known did = partly t v known (subst (λ w. BothTold w v (DidPartly o)) same did)

  kept : (promised : Status → Content → Content → Type 0) → ((c d : Content) → defines c.files o → Did o c d → promised o.status c d)
      → (t v : Option Content) → IfTold t (λ c. defines c.files o) → BothTold t v (Did o) → BothTold t v (promised o.status)
  kept promised keeps (Some c) (Some d) known did = keeps c d known did
  kept promised keeps (Some c) None known did = did
  kept promised keeps None (Some d) known did = did
  kept promised keeps None None known did = did

  pub kept_promise : (promised : Status → Content → Content → Type 0) → ((c d : Content) → defines c.files o → Did o c d → promised o.status c d)
      → (t u v : Option Content) → u ≡ t → IfTold t (λ c. defines c.files o) → BothTold u v (Did o) → BothTold t v (promised o.status)
  kept_promise promised keeps t u v same known did = kept promised keeps t v known (subst (λ w. BothTold w v (Did o)) same did)

  fully : (t v : Option Content) → IfTold t (λ c. defines c.files o) → BothTold t v (Did o) → BothTold t v (Answered defines o.status)
  fully (Some c) (Some d) known did = (o, known, refl, did)
  fully (Some c) None known did = did
  fully None (Some d) known did = did
  fully None None known did = did

  pub answered_fully : (t u v : Option Content) → u ≡ t → IfTold t (λ c. defines c.files o) → BothTold u v (Did o) → BothTold t v (Answered defines o.status)
  answered_fully t u v same known did = fully t v known (subst (λ w. BothTold w v (Did o)) same did)

  first : (t v : Option Content) → IfTold t (λ c. defines c.files o) → BothTold t v (DidFirst o) → BothTold t v (AnsweredFirst defines)
  first (Some c) (Some d) known did = inr (o, known, did)
  first (Some c) None known did = did
  first None (Some d) known did = did
  first None None known did = did

  pub answered_first : (t u v : Option Content) → u ≡ t → IfTold t (λ c. defines c.files o) → BothTold u v (DidFirst o) → BothTold t v (AnsweredFirst defines)
  answered_first t u v same known did = first t v known (subst (λ w. BothTold w v (DidFirst o)) same did)

  -- the command comes to this outcome
  pub comes_to : (lacks : Files → Type 0) (t : Option Content) → IfTold t (λ c. defines c.files o) → IfTold t (λ c. (o.status ≡ statuses.NoMemory) ⊎ Comes defines lacks o.status c)
  comes_to lacks (Some c) known = inr (inr (o, known, refl))
  comes_to lacks None known = tt

-- nothing was put or said
pub not_begun : (defines : Files → Outcome → Type 0) (t v : Option Content) → v ≡ t → BothTold t v (AnsweredFirst defines)
not_begun defines (Some c) (Some d) same = inl (cc)
not_begun defines (Some c) None same = absurd (cc)
not_begun defines None (Some d) same = absurd (cc)
not_begun defines None None same = tt

-- where no reading failed, a file of the command isn't there
pub comes_lacking : (defines : Files → Outcome → Type 0) (lacks : Files → Type 0) (t : Option Content) (before now : ℕ) → ¬ (Rose before now) → Rose before now ⊎ IsLacking lacks t
    → IfTold t (λ c. (statuses.ReadFault ≡ statuses.NoMemory) ⊎ Comes defines lacks statuses.ReadFault c)
comes_lacking defines lacks t before now none (inl rose) = absurd (none rose)
comes_lacking defines lacks (Some c) before now none (inr lacking) = inr (inl (lacking, refl))
comes_lacking defines lacks None before now none (inr lacking) = absurd lacking

-- memory was wanting
pub comes_short : (defines : Files → Outcome → Type 0) (lacks : Files → Type 0) (t : Option Content)
    → IfTold t (λ c. (statuses.NoMemory ≡ statuses.NoMemory) ⊎ Comes defines lacks statuses.NoMemory c)
comes_short defines lacks (Some c) = inl refl
comes_short defines lacks None = tt
