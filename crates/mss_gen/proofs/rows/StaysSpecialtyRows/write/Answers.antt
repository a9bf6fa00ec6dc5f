use Rattle.std.proofs.Common.{◌≡◌, ◌∙◌, ◌++◌, ℕ, List, length, ap, refl, sym, arith, append_assoc}
use Rattle.std.proofs.lemmas.List.{append-nil, take_all}
use Rattle.mss_rows.specs.Written.{text_of}
use Rattle.mss_gen.proofs.RowsWritten.{stays_step, stays_whole}
use Rattle.mss_gen.proofs.rows.StaysSpecialtyRows.write.Goals as goal

pub loop-age-init : goal.loop-age-init
unfolding text_of
loop-age-init c = sym (append-nil c.args.text.now)

pub loop-age-preserved : goal.loop-age-preserved
loop-age-preserved c =
    let chances = c.as_slice-chances.result.now in
    c.in_ok-write_count.ensures ∙ rw c.loop-age.invariant (append_assoc c.args.text.now _ _
    ∙ ap (λ (t : List ℕ). c.args.text.now ++ t) (sym (stays_step c.args.number chances c.loop-age.age 0 c.loop-age-test.true)))

pub returns : goal.returns
returns c =
    let chances = c.as_slice-chances.result.now in
    let past = c.loop-age-test.false in
    let most = c.loop-age.auto.age-end in
    let at : c.loop-age.age ≡ length chances = omega arith in
    let known = rw (take_all c.loop-age.age chances past) at c.loop-age.invariant in
    c.in_ok-write_count-2.ensures ∙ rw known (append_assoc c.args.text.now _ _
    ∙ ap (λ (t : List ℕ). c.args.text.now ++ t) (sym (stays_whole c.args.number chances)) ∙ rw c.as_slice-chances.ensures refl)
