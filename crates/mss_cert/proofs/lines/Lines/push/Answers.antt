use Rattle.std.proofs.Common.{map, ap, length, sym, subst, ◌∙◌, arith}
use Rattle.std.proofs.lemmas.List.{length-map}
use Rattle.mss_cert.specs.KeptLines.{AreKept, line_of}
use Rattle.mss_cert.proofs.KeptLines.{at-error, same-lines, kept-still, kept-more, lines-more}
use Rattle.mss_cert.proofs.lines.Lines.push.Goals as goal

pub returns-in_err-kept-clause-err : goal.returns-in_err-kept-clause-err
returns-in_err-kept-clause-err c =
    at-error c.from_residual.result (same-lines c.self.inside.numbers c.keep.new.self c.self.inside.kept.items c.keep.ensures.before c.self.invariant ∙ c.self.view_is)

pub invariant_of-self-in_err-push : goal.invariant_of-self-in_err-push
invariant_of-self-in_err-push c =
    subst (AreKept c.keep.new.self) (sym c.in_err-push.ensures.items) (kept-still c.self.inside.numbers c.keep.new.self c.self.inside.kept.items c.keep.ensures.before c.self.invariant)

pub returns-in_err-push-clause-err : goal.returns-in_err-push-clause-err
returns-in_err-push-clause-err c =
    at-error c.from_residual-in_err-push.result (ap (map (line_of c.keep.new.self)) c.in_err-push.ensures.items
    ∙ same-lines c.self.inside.numbers c.keep.new.self c.self.inside.kept.items c.keep.ensures.before c.self.invariant ∙ c.self.view_is)

pub invariant_of-self-2 : goal.invariant_of-self-2
invariant_of-self-2 c =
    subst (AreKept c.keep.new.self) (sym c.in_ok-push.ensures.items)
    (kept-more c.self.inside.numbers c.keep.new.self c.self.inside.kept.items c.in_ok-kept.kept c.keep.ensures.before c.self.invariant c.in_ok-kept.ensures.kept.0
    (omega (arith, c.requires.room, ap length c.self.view_is, length-map c.self.inside.kept.items (line_of c.self.inside.numbers))))

pub returns-clause-ok : goal.returns-clause-ok
returns-clause-ok c =
    ap (λ ks. map (line_of c.keep.new.self) ks) c.in_ok-push.ensures.items
    ∙ lines-more c.self.inside.numbers c.keep.new.self c.self.inside.kept.items c.in_ok-kept.kept c.args.line c.args.self.now c.keep.ensures.before c.self.invariant c.self.view_is c.in_ok-kept.ensures.kept.1
