use Rattle.std.proofs.Common.{◌++◌, ◌∙◌, subst, sym}
use Rattle.mss_model.specs.PartsOf.{parts_of}
use Rattle.mss_pctl.specs.FirstLargestLaws.{watched-day}
use Rattle.mss_pctl.specs.PlacesPeak.{IsPeak}
use Rattle.mss_pctl.proofs.peak.Peak.with_census.Goals as goal

pub returns : goal.returns
returns c = λ lows highs places el eh is.
    subst (λ z. IsPeak lows highs (places ++ z) c.with.result)
    (sym (watched-day (parts_of c.args.tables.now) c.args.ward c.args.day (sym c.watched.ensures ∙ c.if-not-watched.false)))
    (c.with.ensures lows highs places (c.beds_pair-low.ensures.low ∙ el) (c.beds_pair-low.ensures.high ∙ eh) is)
