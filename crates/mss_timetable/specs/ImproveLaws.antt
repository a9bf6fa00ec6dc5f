-- What the commands of `mss_improve` come to keeps their promises.
use Rattle.std.proofs.Common.{◌≡◌, ℕ, List, [], ◌++◌, Some, None, inl, inr, sym, ap, ◌∙◌}
use Rattle.mss_model.specs.declared.parts.TableParts.{TableParts}
use Rattle.mss_desk.specs.Desk.{Content}
use Rattle.mss_command.specs.declared.status.Status.TheVariants as statuses
use Rattle.mss_command.specs.Cycles.{cycle_file}
use Rattle.mss_command.specs.CycleLaws.{cycle_answered}
use Rattle.mss_command.specs.Fetched.{Bytes, file_limit}
use Rattle.mss_command.specs.Outcome.{Did, Outcome, put_all}
use Rattle.mss_command.specs.Questions.{Asks, wanted}
use Rattle.mss_command.specs.QuestionLaws.{answered, answered_or_refused}
use Rattle.mss_command.specs.Tables.{StoresTables}
use Rattle.mss_timetable.specs.Improves.{ImprovedNew, ImprovedToday, ImprovesCycle, NewDefines, NewPromised, PrintedImprovement, TodayDefines, TodayPromised, no_first_text}

-- statuses that differ
not_tables_spent : (o : Outcome) → o.status ≡ statuses.Tables → o.status ≡ statuses.SpentWithout → ⊥
not_tables_spent o refused spent = let z : statuses.Tables ≡ statuses.SpentWithout = sym refused ∙ spent in cc

not_spent : (o : Outcome) → o.status ≡ statuses.SpentWithout → o.status ≡ statuses.Done → ⊥
not_spent o spent done = let z : statuses.SpentWithout ≡ statuses.Done = sym spent ∙ done in cc

module _ (tries : ℕ) (o : Outcome) (c d : Content) (did : Did o c d) where
  printed : (tables : TableParts) (start : List ℕ) → ImprovesCycle tables tries start o → PrintedImprovement tables tries start c.files d.files o.text
  printed tables start improves = record {
    cycle = improves.cycle;
    summary = improves.summary;
    better = improves.better;
    tried = improves.tried;
    lower = improves.lower;
    improved = improves.puts.improved;
    file = improves.puts.file;
    weights = improves.puts.weights;
    shown = improves.puts.shown;
    files = did.files ∙ ap (λ ps. put_all ps c.files) improves.puts.exact;
    report = improves.prints.report;
    exact = improves.prints.exact;
    hold = improves.prints.of_tables.hold;
  }

  today : (tables : TableParts) → StoresTables c.files tables → o.status ≡ statuses.Done → TodayDefines tries tables (wanted (Some cycle_file) file_limit c.files) o
      → ImprovedToday tries c.files d.files o.text
  today tables stored done known =
      cycle_answered (ImprovesCycle tables tries) c.files tables o (ImprovedToday tries c.files d.files o.text) known done
      (λ start given improves. record { tables = tables; stored = stored; start = start; today = given; printed = printed tables start improves })

  pub today_keeps : Asks (TodayDefines tries) (Some cycle_file) file_limit c.files o → TodayPromised tries o.status c d
  today_keeps known done = (
    o.text,
    did.said,
    answered (TodayDefines tries) c.files o (ImprovedToday tries c.files d.files o.text) (Some cycle_file) file_limit known done
        (λ tables stored answer. today tables stored done answer),
  )

  new_done : (tables : TableParts) → StoresTables c.files tables → o.status ≡ statuses.Done → NewDefines tries tables (Bytes []) o
      → ImprovedNew tries c.files d.files o.text
  new_done tables stored done (inl first) =
      record { tables = tables; stored = stored; start = first.first; legal = first.legal; printed = printed tables first.first first.improves }
  new_done tables stored done (inr none) = absurd (not_spent o (ap (λ o. o.status) none) done)

  new_spent : (tables : TableParts) → o.status ≡ statuses.SpentWithout → NewDefines tries tables (Bytes []) o
      → (d.said ≡ c.said ++ no_first_text) × (d.files ≡ c.files)
  new_spent tables spent (inl first) = absurd (not_spent o spent first.improves.status)
  new_spent tables spent (inr none) = (did.said ∙ ap (λ o. c.said ++ o.text) none, did.files ∙ ap (λ o. put_all o.puts c.files) none)

  pub new_keeps : Asks (NewDefines tries) None 0 c.files o → NewPromised tries o.status c d
  new_keeps known = (
    λ done. (
      o.text,
      did.said,
      answered (NewDefines tries) c.files o (ImprovedNew tries c.files d.files o.text) None 0 known done
          (λ tables stored answer. new_done tables stored done answer),
    ),
    λ spent. answered_or_refused (NewDefines tries) c.files o ((d.said ≡ c.said ++ no_first_text) × (d.files ≡ c.files)) None 0 known
        (λ refused. absurd (not_tables_spent o refused spent)) (λ tables stored answer. new_spent tables spent answer),
  )
