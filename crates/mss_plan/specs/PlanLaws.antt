-- What `plan` and `plan alike` come to keeps their promise.
use Rattle.std.proofs.Common.{◌≡◌, ◌++◌, ℕ, false, IsTrue, List, Option, Some, None, ◌⊎◌, inl, inr, refl, ap, ◌∙◌}
use Rattle.std.specs.Prelude.{◌↔◌}
use Rattle.mss_model.specs.declared.parts.TableParts.{TableParts}
use Rattle.mss_check.specs.Validity.{lean_task}
use Rattle.mss_desk.specs.Desk.{Content}
use Rattle.mss_search.specs.Promises.{IsIncumbent, board_of}
use Rattle.mss_search.specs.Searching.{upper_of}
use Rattle.mss_search.specs.Standing.{HasNoFull}
use Rattle.mss_search.specs.declared.planner.Planned.{Planned}
use Rattle.mss_report.specs.PlanText.{PrintsPlan, plan_text_of}
use Rattle.mss_command.specs.declared.status.Status.{Status}
use Rattle.mss_command.specs.declared.status.Status.TheVariants as statuses
use Rattle.mss_command.specs.Outcome.{Did, Outcome, put_all}
use Rattle.mss_command.specs.Questions.{Asks}
use Rattle.mss_command.specs.QuestionLaws.{answered_or_refused}
use Rattle.mss_command.specs.Tables.{StoresTables}
use Rattle.mss_plan.specs.Plan.{IsCycleFile, IsPlan, PlanDefines, PlanPromised, PlansTables, PrintedPlan, PrintsCycle, PrintsNoCycle, plan_may_answer, summary_of}

-- a refusal of the tables has none of the statuses of a plan
not_refused : (status : Status) → status ≡ statuses.Tables → IsTrue (plan_may_answer status) → ⊥
not_refused status e may = let k : plan_may_answer status ≡ false = ap plan_may_answer e in cc

module _ (rule : TableParts → List ℕ → Option ℕ) (tables : TableParts) (p : Planned) (plan : IsPlan rule tables p) where
  -- what is printed, by whether there is a best cycle
  printed : (best : Option (List ℕ)) (upper : Option ℕ) (planned text : List ℕ) → p.best ≡ best → p.upper ≡ upper
      → IsIncumbent (lean_task 2 rule tables) (upper_of tables) p.certificate.tree best upper → IsCycleFile tables best planned
      → PrintsPlan tables (summary_of p) best text → PrintsCycle tables (summary_of p) planned text ⊎ PrintsNoCycle (summary_of p) planned text
  unfolding plan_text_of
  printed None None planned text b u i file prints = inr (record { none = u; file = file; exact = prints })
  printed None (Some n) planned text b u i file prints = absurd i
  printed (Some cycle) None planned text b u i file prints = absurd i
  printed (Some cycle) (Some n) planned text b u i file prints = inl (record {
    cycle = cycle;
    upper = n;
    printed = u;
    legal = plan.legal cycle b;
    peaks = plan.peaks cycle n b u;
    file = file;
    report = prints.report;
    exact = prints.exact;
    hold = prints.of_tables.hold;
  })

  -- there is no upper number exactly where no line is full
  without : (best : Option (List ℕ)) (upper : Option ℕ) → IsIncumbent (lean_task 2 rule tables) (upper_of tables) p.certificate.tree best upper
      → (upper ≡ None) ↔ HasNoFull (board_of (lean_task 2 rule tables) p.certificate.tree)
  without None None i = ((λ e. i), (λ none. refl))
  without None (Some n) i = absurd i
  without (Some cycle) None i = absurd i
  without (Some cycle) (Some n) i = ((λ e. absurd (cc)), (λ none. absurd (none cycle i.turn i.number i.ward i.day i.there)))

module _ (rule : TableParts → List ℕ → Option ℕ) (o : Outcome) (c d : Content) (did : Did o c d) (tables : TableParts) (stored : StoresTables c.files tables) (plans : PlansTables rule tables o) where
  pub keeps : PrintedPlan rule c.files d.files o.status o.text
  keeps = record {
    tables = tables;
    stored = stored;
    summary = summary_of plans.plan;
    planned = plans.puts.planned;
    certificate = plans.plan.certificate;
    files = did.files ∙ ap (λ ps. put_all ps c.files) plans.puts.exact;
    cycle = printed rule tables plans.plan plans.is plans.plan.best plans.plan.upper plans.puts.planned o.text refl refl plans.is.search.best plans.puts.file plans.prints;
    lower = plans.is.lower;
    closed = plans.is.closes;
    short = plans.is.short;
    within = plans.is.within;
    version = plans.is.search.version;
    valid = plans.is.search.valid;
    proves = refl;
    spent = plans.is.search.spent;
    without = without rule tables plans.plan plans.is plans.plan.best plans.plan.upper plans.is.search.best;
    ends = plans.status;
  }

pub plan_keeps : (rule : TableParts → List ℕ → Option ℕ) (o : Outcome) (c d : Content) → Asks (PlanDefines rule) None 0 c.files o → Did o c d → PlanPromised rule o.status c d
plan_keeps rule o c d known did may =
    answered_or_refused (PlanDefines rule) c.files o ((text : List ℕ) × (d.said ≡ c.said ++ text) × PrintedPlan rule c.files d.files o.status text) None 0 known
    (λ refused. absurd (not_refused o.status refused may))
    (λ tables stored plans. (o.text, did.said, keeps rule o c d did tables stored plans))
