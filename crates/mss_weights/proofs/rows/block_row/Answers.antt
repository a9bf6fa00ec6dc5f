use Rattle.std.proofs.Common.{◌≡◌, ◌+◌, ◌∙◌, sym, ap, subst, get_or, [], arith}
use Rattle.std.proofs.lemmas.Option.{get_or_from_slice_get}
use Rattle.mss_enclose.specs.Kept.{StandsFor}
use Rattle.mss_enclose.specs.Words.{masses_list, mass_lists}
use Rattle.mss_weights.specs.Steady.{steady_sum, steady_list}
use Rattle.std.proofs.lemmas.List.FromFn.{get_or-map-range_with_len}
use Rattle.mss_weights.specs.BlockWeights.{weight_of}
use Rattle.mss_weights.specs.Rows.{IsRow}
use Rattle.mss_weights.proofs.RowsGrow.{row-more, values-more}
use Rattle.mss_weights.proofs.rows.block_row.Goals as goal

pub loop-offset-preserved : goal.loop-offset-preserved
loop-offset-preserved g c =
    let o = c.loop-offset.offset in
    let found : get_or (mass_lists c.in_ok-lists.lists) o [] ≡ masses_list c.get.result.now
    = ap (λ k. get_or (mass_lists c.in_ok-lists.lists) k []) (sym c.from.ensures)
    ∙ get_or_from_slice_get (mass_lists c.in_ok-lists.lists) c.from.result (masses_list c.get.result.now) [] (sym c.get.ensures) in
    let stands : StandsFor (masses_list c.get.result.now) (steady_sum c.args.days c.args.block.now o)
    = subst (λ l. StandsFor l (steady_sum c.args.days c.args.block.now o)) found (c.in_ok-lists.ensures.stands.stands o c.loop-offset-test.true) in
    let list : masses_list c.get.result.now ≡ steady_list c.args.days c.args.block.now o
    = sym found ∙ ap (λ ls. get_or ls o []) c.in_ok-lists.ensures.lists ∙ get_or-map-range_with_len (steady_list c.args.days c.args.block.now) 0 c.args.days o o [] c.loop-offset-test.true (omega arith) in (
      subst (IsRow c.args.power c.args.days c.args.block.now (o + 1)) (sym c.in_ok-push.ensures.items)
          (row-more c.args.power c.args.days o c.block_weight.result c.args.block.now c.loop-offset.row.items c.loop-offset.invariant.0
          (c.block_weight.ensures.weighs (steady_sum c.args.days c.args.block.now o) stands) c.block_weight.ensures.few),
      c.in_ok-push.ensures.items
          ∙ values-more (λ k. weight_of c.args.power (steady_list c.args.days c.args.block.now k)) o c.block_weight.result c.loop-offset.row.items c.loop-offset.invariant.1
          (c.block_weight.ensures.value ∙ ap (weight_of c.args.power) list),
    )
