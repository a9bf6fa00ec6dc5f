use Rattle.std.proofs.Common.{ℕ, List, Bor, map, sym}
use Rattle.mss_gen.specs.Rows.{by_specialty}
use Rattle.mss_gen.proofs.RowsWritten.{table_step, text_one}
use Rattle.mss_gen.proofs.tables.table_text.Goals as goal

pub loop-place-init : goal.loop-place-init
unfolding by_specialty
loop-place-init g c = rw (c.in_ok-push_row.ensures, c.make-text.ensures) (sym (text_one (map (λ (field : Bor (List ℕ)). field.now) c.args.header.now)))

pub loop-place-preserved : goal.loop-place-preserved
loop-place-preserved g c =
    let all = c.args.specialties.now in
    let own = c.index-specialties-place.result in
    let step = table_step (g.T.SpecialtyRows.rows c.args.table.now) (map (λ (field : Bor (List ℕ)). field.now) c.args.header.now) all c.loop-place.place own c.loop-place-test.true in
    let here = rw (← c.index-specialties-place.is) at step in
    rw (c.in_ok-write.ensures, c.loop-place.invariant) (sym here)
