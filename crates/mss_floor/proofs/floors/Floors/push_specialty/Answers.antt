use Rattle.std.proofs.Common.{◌≡◌, ℕ, ◌-◌, List, ◌++◌, true, length, get_or, slice_index, replicate, sym, ap, ◌∙◌, eq-eqb}
use Rattle.mss_model.specs.Occurrences.{lies_on}
use Rattle.mss_model.specs.PartsOf.{parts_of}
use Rattle.mss_enclose.specs.Kept.{joined_all}
use Rattle.mss_enclose.specs.Words.{mass_lists}
use Rattle.mss_floor.specs.FloorLists.{specialty_floor}
use Rattle.mss_floor.specs.FlooredLists.{fitting}
use Rattle.mss_floor.specs.ForcedBlocks.{forced}
use Rattle.mss_floor.specs.KnownListsLaws.{lists-known}
use Rattle.mss_floor.proofs.OneFloor.{floors-there, lies-is}
use Rattle.mss_floor.proofs.floors.Floors.push_specialty.Goals as goal

pub set_floor-requires-clause-lists : goal.set_floor-requires-clause-lists
set_floor-requires-clause-lists g c =
    lists-known (parts_of c.args.tables.now) mass_lists c.self.inside.steady.items c.index.result.now c.args.j (c.from-2.result - 1) c.args.tables.now.good
    (c.self.view_is ∙ c.requires.tables) c.requires.specialty (ap (λ n. n - 1) c.from-2.ensures) c.index.ensures

pub returns-clause-pushed : goal.returns-clause-pushed
returns-clause-pushed g c = λ fs.
    let E = g.E.Enclosure in
    let t = parts_of c.args.tables.now in
    let F : ℕ → List ℕ = specialty_floor t c.args.prefix.now c.args.day in
    let a : List ℕ = E.items c.args.value.now in
    let lies : lies_on t.ward_of c.args.ward c.args.j ≡ true =
    lies-is t.ward_of c.args.ward c.args.j c.requires.specialty.0 ∙ eq-eqb (get_or t.ward_of (c.args.j - 1) 0) c.args.ward (sym c.ward_of.ensures.value ∙ c.if-ward_of-ward.false) in
    let times : slice_index c.args.blocks.now c.from.result ≡ forced t c.args.prefix.now c.args.j =
    ap (slice_index c.args.blocks.now) c.from.ensures ∙ c.requires.blocks c.args.j c.requires.specialty.0 c.requires.specialty.1 in
    ap (λ ls. joined_all E.joined a (fitting c.args.left (length a) (ls ++ fs))) (floors-there F (lies_on t.ward_of c.args.ward c.args.j) (forced t c.args.prefix.now c.args.j) c.args.j lies)
    ∙ ap (λ n. joined_all E.joined a (fitting c.args.left (length a) (replicate n (F c.args.j) ++ fs))) (sym times)
    ∙ ap (λ l. joined_all E.joined a (fitting c.args.left (length a) (replicate (slice_index c.args.blocks.now c.from.result) l ++ fs))) (sym c.set_floor.ensures.list)
    ∙ c.push_copies.ensures.pushed fs
