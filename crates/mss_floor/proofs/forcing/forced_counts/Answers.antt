use Rattle.std.proofs.Common.{ℕ, ◌+◌, ◌<◌, sym, ap, ◌∙◌, arith, inl, inr, eq-eqb}
use Rattle.std.proofs.lemmas.Bool.{cases_eq, ne_eqb}
use Rattle.mss_model.specs.PartsOf.{parts_of}
use Rattle.mss_floor.specs.ForcedBlocks.{forced}
use Rattle.mss_floor.proofs.forcing.forced_counts.Goals as goal

-- one specialty more
pub loop-j-preserved : goal.loop-j-preserved
loop-j-preserved c = λ i some last.
    let t = parts_of c.args.tables.now in
    let j : ℕ = c.loop-j.j + 1 in
    let inside : i < 25 = omega (arith, last, c.loop-j-test.true, c.specialties-j-end.ensures.limits.1) in
    c.set_count.ensures i inside ∙ elim (cases_eq i (c.loop-j.j + 1)) [
      | inl same ↦ rw (eq-eqb i (c.loop-j.j + 1) same) (c.forced.ensures.value ∙ ap (forced t c.args.prefix.now) (sym same))
      | inr other ↦ rw (ne_eqb i (c.loop-j.j + 1) other) (c.loop-j.invariant i some (omega (arith, last, other)))
    ]
