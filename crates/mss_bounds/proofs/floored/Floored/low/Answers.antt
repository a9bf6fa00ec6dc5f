use Rattle.std.proofs.Common.{◌≡◌, ◌+◌, ℕ, List, length, ap, ap₂, ◌∙◌, arith}
use Rattle.mss_model.specs.PartsOf.{parts_of}
use Rattle.mss_census.specs.declared.quantity.Quantity.TheVariants.{Census}
use Rattle.mss_census.specs.WholeCensusLaws.{census-long}
use Rattle.mss_floor.specs.FlooredLists.{floored_list, floored_census}
use Rattle.mss_floor.specs.FlooredPrefixLaws.{floored_census-short}
use Rattle.mss_bounds.proofs.floored.Floored.low.Goals as goal

pub copy_from-requires : goal.copy_from-requires
copy_from-requires g c =
    let long = census-long g.E.Enclosure.joined g.met.E.Enclosure.joined_length Census (parts_of c.args.tables.now) c.args.spot.ward c.args.spot.day c.args.prefix.now
    c.args.tables.now.good c.requires.ward.0 c.requires.long in
    omega (arith, long, ap length c.requires.list, c.self.invariant.copy_room)

-- the low number of a list and a level that are known otherwise
low-same : (low_of : List ℕ → ℕ → ℕ) (n : ℕ) (list is : List ℕ) (level same : ℕ) → n ≡ low_of list level → list ≡ is → level ≡ same → n ≡ low_of is same
low-same low_of n list is level same e f h = e ∙ ap (λ l. low_of l level) f ∙ ap (low_of is) h

-- an allowance is small, and so is the low number of a list that fits
pub overflow_add-result : goal.overflow_add-result
overflow_add-result g c =
    let E = g.E.Enclosure in
    let t = parts_of c.args.tables.now in
    let list : E.items c.push_forced.new.value ≡ floored_census E.joined t c.args.prefix.now c.args.spot.ward c.args.spot.day =
    c.push_forced.ensures.value ∙ ap (floored_list E.joined t c.args.prefix.now c.args.spot.ward c.args.spot.day) (c.copy_from.ensures.items ∙ c.requires.list) in
    let low = low-same E.low_of c.low.result (E.items c.push_forced.new.value) (floored_census E.joined t c.args.prefix.now c.args.spot.ward c.args.spot.day)
    c.level.result t.level c.low.ensures list c.level.ensures.value in
    let short = floored_census-short E.joined E.stands_for E.low_of g.met.E.Enclosure.sums g.met.E.Enclosure.joined_length g.met.E.Enclosure.starts g.met.E.Enclosure.low_at_most
    t c.args.prefix.now c.args.spot.ward c.args.spot.day t.level c.args.tables.now.good c.requires.ward.0 c.requires.long in
    omega (arith, low, short, c.allow.ensures.limits)

pub returns-clause-value : goal.returns-clause-value
returns-clause-value g c =
    let E = g.E.Enclosure in
    let t = parts_of c.args.tables.now in
    let list : E.items c.push_forced.new.value ≡ floored_census E.joined t c.args.prefix.now c.args.spot.ward c.args.spot.day =
    c.push_forced.ensures.value ∙ ap (floored_list E.joined t c.args.prefix.now c.args.spot.ward c.args.spot.day) (c.copy_from.ensures.items ∙ c.requires.list) in
    ap₂ (λ a n. a + n) c.allow.ensures.value (low-same E.low_of c.low.result (E.items c.push_forced.new.value)
    (floored_census E.joined t c.args.prefix.now c.args.spot.ward c.args.spot.day) c.level.result t.level c.low.ensures list c.level.ensures.value)
