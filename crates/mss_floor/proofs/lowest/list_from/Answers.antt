use Rattle.std.proofs.Common.{◌≡◌, ℕ, ◌+◌, ◌-◌, ◌%◌, ◌<◌, length, ap, ◌∙◌, arith}
use Rattle.std.proofs.Math.Nat.{mod-lt}
use Rattle.std.proofs.lemmas.List.FromFn.{length-map-range_with_len}
use Rattle.mss_model.specs.Occurrences.{offset}
use Rattle.mss_model.specs.PartsOf.{parts_of}
use Rattle.mss_model.specs.TableWords.{block_of}
use Rattle.mss_enclose.specs.Words.{mass_lists, masses_list}
use Rattle.mss_floor.specs.FloorLists.{steady_list}
use Rattle.mss_floor.specs.KnownListsLaws.{steady-at}
use Rattle.mss_floor.proofs.lowest.list_from.Goals as goal

pub get-requires : goal.get-requires
get-requires c =
    let t = parts_of c.args.tables.now in
    let len : length (mass_lists c.args.lists.now) ≡ t.days = ap length c.requires.lists ∙ length-map-range_with_len (steady_list t.days (block_of t c.args.j)) 0 t.days in
    let same : c.from-days.result ≡ t.days = c.from-days.ensures ∙ c.days.ensures.value in
    omega (arith, len, same, mod-lt (c.from.result + c.from-days.result - c.from-2.result) (let some : 0 < c.from-days.result = omega (arith, same, c.args.tables.now.good.slots.days.0) in some))

pub returns : goal.returns
returns c =
    let t = parts_of c.args.tables.now in
    let same : c.from-days.result ≡ t.days = c.from-days.ensures ∙ c.days.ensures.value in
    let o : ℕ = (c.from.result + c.from-days.result - c.from-2.result) % c.from-days.result in
    let inside : (c.from.result + c.from-days.result - c.from-2.result) % c.from-days.result < t.days = omega (arith, same, mod-lt (c.from.result + c.from-days.result - c.from-2.result) (let some : 0 < c.from-days.result = omega (arith, same, c.args.tables.now.good.slots.days.0) in some)) in
    let at : (c.from.result + c.from-days.result - c.from-2.result) % c.from-days.result ≡ offset t.days c.args.day (c.args.place + 1) =
    ap (λ a. (a + c.from-days.result - c.from-2.result) % c.from-days.result) c.from.ensures
    ∙ ap (λ a. (c.args.day + c.from-days.result - a) % c.from-days.result) c.from-2.ensures
    ∙ ap (λ d. (c.args.day + d - (c.args.place + 1)) % d) same in
    steady-at t c.args.j o (mass_lists c.args.lists.now) (masses_list c.get.result.now) c.requires.lists inside c.get.ensures ∙ ap (steady_list t.days (block_of t c.args.j)) at
