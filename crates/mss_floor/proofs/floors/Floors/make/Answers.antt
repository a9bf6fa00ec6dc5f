use Rattle.std.proofs.Common.{◌≡◌, ◌+◌, ◌-◌, ◌<◌, [], ◌∷◌, ◌++◌, length, map, take, get_or, sym, ap, ◌∙◌, arith}
use Rattle.std.proofs.lemmas.List.{map-append}
use Rattle.mss_model.specs.BlockAtAge.{no_block}
use Rattle.mss_model.specs.PartsOf.{parts_of}
use Rattle.mss_enclose.specs.Words.{mass_lists}
use Rattle.mss_thin.specs.SteadyLists.{steady_lists}
use Rattle.mss_census.specs.declared.quantity.Quantity.TheVariants.{Census}
use Rattle.mss_census.specs.TableBlocksLaws.{take-lists}
use Rattle.mss_floor.proofs.floors.Floors.make.Goals as goal

pub loop-j-preserved : goal.loop-j-preserved
loop-j-preserved g c =
    let t = parts_of c.args.tables.now in
    let j = c.loop-j.j in
    let place : j + 1 - 1 ≡ j = omega arith in
    let known : j < length t.blocks = omega (arith, c.loop-j-test.true, c.specialties-j-end.ensures.value, c.args.tables.now.good.specialties.blocks) in
    let lists : mass_lists c.in_ok-steady.field-0 ≡ steady_lists t.days (get_or t.blocks j no_block) =
    c.in_ok-steady.ensures.lists ∙ ap (λ d. steady_lists d c.block.result.now) c.days.ensures.value
    ∙ ap (steady_lists t.days) (c.block.ensures.value ∙ ap (λ k. get_or t.blocks k no_block) place) in
    ap (map mass_lists) c.in_ok-push.ensures.items ∙ map-append mass_lists c.loop-j.lists.items (c.in_ok-steady.field-0 ∷ [])
    ∙ ap (λ r. r ++ mass_lists c.in_ok-steady.field-0 ∷ []) c.loop-j.invariant
    ∙ ap (λ l. take j (map (steady_lists t.days) t.blocks) ++ l ∷ []) lists ∙ sym (take-lists Census t.days t.blocks j known)
