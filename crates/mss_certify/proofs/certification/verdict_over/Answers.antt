use Rattle.std.proofs.lemmas.Result.{IfOk-weaker}
use Rattle.mss_model.specs.Legality.{IsLegal}
use Rattle.mss_model.specs.PartsOf.{parts_of}
use Rattle.mss_check.specs.Validity.{Proves, peak_at_level}
use Rattle.mss_alike.specs.Alike.{IsCanonical}
use Rattle.mss_certify.proofs.ForLegal.{proves_for_legal}
use Rattle.mss_certify.proofs.certification.verdict_over.Goals as goal

pub returns-in-Canonical-clause-proves : goal.returns-in-Canonical-clause-proves
returns-in-Canonical-clause-proves g c =
    let t = parts_of c.args.tables.now in
    IfOk-weaker c.check-in-Canonical.result (Proves (IsCanonical t) (peak_at_level t)) (Proves (IsLegal t) (peak_at_level t))
    (proves_for_legal t c.args.tables.now.good) c.check-in-Canonical.ensures.proves

pub returns-in-Legal-clause-valid : goal.returns-in-Legal-clause-valid
returns-in-Legal-clause-valid g c = rw c.in-Legal.is c.check.ensures.valid

pub returns-in-Canonical-clause-valid : goal.returns-in-Canonical-clause-valid
returns-in-Canonical-clause-valid g c = rw c.in-Canonical.is c.check-in-Canonical.ensures.valid
