use Rattle.std.proofs.Common.{◌≡◌, ◌∙◌, length, ap, arith}
use Rattle.mss_model.specs.PartsOf.{parts_of}
use Rattle.mss_census.specs.declared.quantity.Quantity.TheVariants.{Census}
use Rattle.mss_census.specs.CensusView.{CensusView}
use Rattle.mss_census.specs.WardLists.{WardLists, lists_of, census_list}
use Rattle.mss_census.specs.WholeCensusLaws.{census-long}
use Rattle.mss_check.specs.PrefixLists.{PrefixListView}
use Rattle.mss_check.proofs.prefix_list.PrefixList.set_prefix.Goals as goal

-- the list of a prefix has room
pub copy_from-requires : goal.copy_from-requires
copy_from-requires g c =
    let E = g.E.Enclosure in
    let t = parts_of c.args.tables.now in
    let lists : c.self.inside.census.lists ≡ lists_of t = ap (λ (v : PrefixListView). v.lists) c.self.view_is ∙ c.requires.tables.lists_are in
    let list : E.items c.value.result.now ≡ census_list E.joined (lists_of t) c.args.ward c.args.day c.args.prefix.now =
    c.value.ensures.list ∙ ap (λ (v : CensusView). census_list E.joined v.lists v.ward v.day v.options) c.set_prefix.ensures
    ∙ ap (λ (l : WardLists). census_list E.joined l c.args.ward c.args.day c.args.prefix.now) lists in
    let long = census-long E.joined g.met.E.Enclosure.joined_length Census t c.args.ward c.args.day c.args.prefix.now c.args.tables.now.good c.requires.ward c.requires.long in
    omega (arith, long, ap length list, c.self.invariant.list_room)
