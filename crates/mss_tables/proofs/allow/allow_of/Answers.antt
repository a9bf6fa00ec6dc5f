use Rattle.std.proofs.Common.{◌∙◌, ◌+◌, sym, arith}
use Rattle.std.proofs.lemmas.List.FromFn.{map-range_with_len_more}
use Rattle.mss_tables.specs.Allowances.{allowance}
use Rattle.mss_tables.proofs.allow.allow_of.Goals as goal

pub loop-place-preserved : goal.loop-place-preserved
loop-place-preserved c =
    let more = map-range_with_len_more (allowance c.args.watch.now c.args.allow.now) 1 c.loop-place.place (c.loop-place.place + 1) (omega arith) in
    c.in_ok-push.ensures.ok ∙ rw (c.loop-place.invariant, c.allowance.ensures) (sym more)
