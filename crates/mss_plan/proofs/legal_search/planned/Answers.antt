use Rattle.mss_model.specs.PartsOf.{parts_of}
use Rattle.mss_alike.specs.declared.rule_set.RuleSet.TheVariants.{Legal, Canonical}
use Rattle.mss_plan.proofs.LegalPlan.{plan_ok}
use Rattle.mss_plan.proofs.legal_search.planned.Goals as goal

pub returns-in-Legal : goal.returns-in-Legal
returns-in-Legal g c =
    let e = c.plan.ensures in
    rw c.in-Legal.is
    (plan_ok Legal (parts_of c.args.tables.now) c.args.tables.now.good c.plan.result e.version e.valid e.frugal e.best e.spent e.few e.member e.peaks e.lower e.none e.closes)

pub returns-in-Canonical : goal.returns-in-Canonical
returns-in-Canonical g c =
    let e = c.plan-in-Canonical.ensures in
    rw c.in-Canonical.is
    (plan_ok Canonical (parts_of c.args.tables.now) c.args.tables.now.good c.plan-in-Canonical.result e.version e.valid e.frugal e.best e.spent e.few e.member e.peaks e.lower e.none e.closes)
