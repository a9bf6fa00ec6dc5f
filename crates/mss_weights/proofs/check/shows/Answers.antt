use Rattle.std.proofs.Common.{◌∙◌, map, sym}
use Rattle.mss_model.specs.PartsOf.{parts_of}
use Rattle.mss_weights.proofs.Checked.{shown}
use Rattle.mss_weights.proofs.check.shows.Goals as goal

pub returns-then-is_fit-clause-lower : goal.returns-then-is_fit-clause-lower
returns-then-is_fit-clause-lower c = λ yes cycle legal.
    shown (parts_of c.args.tables.now) c.args.weights.now (map (λ row. row.items) c.args.rows.now) cycle c.args.tables.now.good
    c.requires.rows (sym c.is_fit.ensures ∙ c.if-is_fit.true) (sym c.pays.ensures ∙ yes) legal
