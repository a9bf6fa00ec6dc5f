use Rattle.std.proofs.Common.{◌∙◌, refl}
use Rattle.std.proofs.lemmas.Result.{IfOk-weaker}
use Rattle.mss_model.specs.PartsOf.{parts_of}
use Rattle.mss_generate.proofs.generate.plan_lines.Goals as goal

pub returns : goal.returns
returns g c =
    IfOk-weaker c.summary_text.result _ _ (λ text exact. record {
      within = c.requires.within;
      tables = parts_of c.in_ok-tables.tables;
      means = c.in_ok-tables.ensures;
      plan = c.in_ok-planned.planned;
      is = c.in_ok-planned.ensures;
      exact = exact ∙ rw c.summary_of.ensures refl;
    }) c.summary_text.ensures
