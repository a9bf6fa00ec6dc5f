use Rattle.std.proofs.Common.{◌≡◌, ◌∙◌, ◌-◌, ℕ, List, length, ap, sym, subst, take, refl, arith, Some}
use Rattle.std.specs.Prelude.{slice_get}
use Rattle.std.proofs.lemmas.List.{length-map}
use Rattle.lru.specs.LruCache.{last_entry}
use Rattle.mss_model.specs.declared.parts.TableParts.{TableParts}
use Rattle.mss_model.specs.PartsOf.{parts_of}
use Rattle.mss_census.specs.WardLists.{lists_of}
use Rattle.mss_pctl.specs.Peaks.{peak_places}
use Rattle.mss_bounds.specs.Spots.{place_of, places_of}
use Rattle.mss_bounds.specs.CarriedLists.{CarriedView, IsHeld, prefix_at, prefixes_of, started}
use Rattle.mss_bounds.specs.CarriedPrefixes.{longest, brought, carried_after}
use Rattle.mss_bounds.specs.BounderView.{BounderView, IsCarrying}
use Rattle.mss_bounds.proofs.CarriedChoice.{same-bytes, front-is, front-stays}
use Rattle.mss_bounds.proofs.CarriedOn.{brought-carrying, after-brought, carrying-of, start-held, begun, filled-held, some-place, exchanged, after-exchanged, count-as}
use Rattle.mss_bounds.proofs.bounder.Bounder.carry_counted.Goals as goal

-- the prefix was carried
pub invariant_of-self : goal.invariant_of-self
invariant_of-self g c =
    let E = g.E.Enclosure in
    let inside = c.self.inside in
    subst (λ es. IsCarrying E.joined inside.census.lists (places_of inside.spots.items) es inside.working) (sym c.bring-found.ensures.entries)
    (brought-carrying E.joined inside.census.lists (places_of inside.spots.items) inside.cache.entries inside.working (take c.longest-len.result c.args.prefix.now) c.self.invariant)

pub returns-then-len-prefix-clause-order : goal.returns-then-len-prefix-clause-order
returns-then-len-prefix-clause-order g c =
    let inside = c.self.inside in
    ap prefixes_of c.bring-found.ensures.entries
    ∙ after-brought c.args.prefix.now inside.cache.entries c.longest-len.result (sym c.bring-found.ensures.found ∙ c.if-found.true) c.if-len-prefix.true
    ∙ ap (λ (v : BounderView). carried_after c.args.prefix.now v.carried) c.self.view_is

-- or it is filled from the longest carried prefix of it
pub fill-requires-clause-start : goal.fill-requires-clause-start
fill-requires-clause-start g c =
    let E = g.E.Enclosure in
    let inside = c.self.inside in
    let t : TableParts = parts_of c.args.tables.now in
    let lists : inside.census.lists ≡ lists_of t = ap (λ (v : BounderView). v.lists) c.self.view_is ∙ c.requires.tables.lists_are in
    let carrying : IsCarrying E.joined (lists_of t) (places_of c.deref.result.now) c.bring-found.new.cache.entries inside.working =
    carrying-of E.joined inside.census.lists (lists_of t) (places_of inside.spots.items) (places_of c.deref.result.now)
    (brought prefix_at (take c.longest-len.result c.args.prefix.now) inside.cache.entries) c.bring-found.new.cache.entries inside.working
    lists (ap places_of (sym c.deref.ensures.value)) (sym c.bring-found.ensures.entries)
    (brought-carrying E.joined inside.census.lists (places_of inside.spots.items) inside.cache.entries inside.working (take c.longest-len.result c.args.prefix.now) c.self.invariant) in
    start-held (IsHeld E.joined (lists_of t) (places_of c.deref.result.now)) c.bring-found.new.cache.entries c.bring-found.result c.start_of.result carrying.held c.start_of.ensures

pub fill-requires-clause-begins : goal.fill-requires-clause-begins
fill-requires-clause-begins g c =
    (begun c.args.prefix.now c.self.inside.cache.entries c.bring-found.new.cache.entries c.longest-len.result c.bring-found.result c.start_of.result
    c.longest-len.ensures.value c.bring-found.ensures.found c.bring-found.ensures.entries c.start_of.ensures).1

pub invariant_of-self-2 : goal.invariant_of-self-2
invariant_of-self-2 g c =
    let E = g.E.Enclosure in
    let inside = c.self.inside in
    let t : TableParts = parts_of c.args.tables.now in
    let now : List (ℕ × CarriedView) = c.bring-found.new.cache.entries in
    let lists : inside.census.lists ≡ lists_of t = ap (λ (v : BounderView). v.lists) c.self.view_is ∙ c.requires.tables.lists_are in
    let carrying : IsCarrying E.joined (lists_of t) (places_of c.deref.result.now) c.bring-found.new.cache.entries inside.working =
    carrying-of E.joined inside.census.lists (lists_of t) (places_of inside.spots.items) (places_of c.deref.result.now)
    (brought prefix_at (take c.longest-len.result c.args.prefix.now) inside.cache.entries) c.bring-found.new.cache.entries inside.working
    lists (ap places_of (sym c.deref.ensures.value)) (sym c.bring-found.ensures.entries)
    (brought-carrying E.joined inside.census.lists (places_of inside.spots.items) inside.cache.entries inside.working (take c.longest-len.result c.args.prefix.now) c.self.invariant) in
    let filled : IsHeld E.joined (lists_of t) (places_of c.deref.result.now) c.fill.new.to =
    filled-held E.joined (lists_of t) (places_of c.deref.result.now) c.args.prefix.now c.fill.new.to inside.working.slots inside.working.room c.fill.ensures.to
    (omega (arith, c.requires.long, carrying.working_slots)) carrying.working_slots carrying.working_room in
    let last = some-place (last_entry now) c.exchange.new.working c.exchange.ensures.working in
    carrying-of E.joined (lists_of t) c.fill.new.census.lists (places_of c.deref.result.now) (places_of inside.spots.items) c.exchange.new.cache.entries c.exchange.new.cache.entries c.exchange.new.working
    (sym (c.fill.ensures.lists ∙ lists)) (ap places_of c.deref.ensures.value) refl
    (exchanged E.joined (lists_of t) c.deref.result.now now c.exchange.new.cache.entries inside.working c.fill.new.to c.exchange.new.working last.0.0
    carrying filled (c.exchange.ensures.entries last.0 last.1) c.exchange.ensures.working)

pub returns-clause-order : goal.returns-clause-order
returns-clause-order g c =
    let inside = c.self.inside in
    let now : List (ℕ × CarriedView) = c.bring-found.new.cache.entries in
    let last = some-place (last_entry now) c.exchange.new.working c.exchange.ensures.working in
    after-exchanged c.args.prefix.now inside.cache.entries now c.exchange.new.cache.entries c.fill.new.to c.longest-len.result last.0.0 c.bring-found.result
    c.longest-len.ensures.value c.bring-found.ensures.found c.else-found.either (ap (λ (v : CarriedView). v.prefix) c.fill.ensures.to)
    c.bring-found.ensures.entries (c.exchange.ensures.entries last.0 last.1)
    ∙ ap (λ (v : BounderView). carried_after c.args.prefix.now v.carried) c.self.view_is

pub returns-clause-count : goal.returns-clause-count
returns-clause-count g c =
    let inside = c.self.inside in
    let t : TableParts = parts_of c.args.tables.now in
    let start = begun c.args.prefix.now inside.cache.entries c.bring-found.new.cache.entries c.longest-len.result c.bring-found.result c.start_of.result
    c.longest-len.ensures.value c.bring-found.ensures.found c.bring-found.ensures.entries c.start_of.ensures in
    let places : length c.deref.result.now ≡ length (peak_places t) =
    ap length c.deref.ensures.value ∙ sym (length-map inside.spots.items place_of) ∙ ap (λ (v : BounderView). length v.places) c.self.view_is ∙ ap length c.requires.tables.places_are in
    let from : length (started c.start_of.result) ≡ longest c.args.prefix.now c.args.self.now.carried =
    start.0 ∙ c.longest-len.ensures.value ∙ ap (λ (v : BounderView). longest c.args.prefix.now v.carried) c.self.view_is in
    count-as c.fill.new.count c.args.count.now (length c.deref.result.now) (length (peak_places t)) (length c.args.prefix.now - length (started c.start_of.result))
    (length c.args.prefix.now - longest c.args.prefix.now c.args.self.now.carried) c.fill.ensures.count places (ap (λ n. length c.args.prefix.now - n) from)

-- it was in front
pub returns-then-eq-clause-order : goal.returns-then-eq-clause-order
returns-then-eq-clause-order g c =
    let inside = c.self.inside in
    let p : List ℕ = c.args.prefix.now in
    let same : c.front.result.now.prefix ≡ c.args.prefix.now =
    sym c.prefix.ensures ∙ same-bytes c.prefix.result.now c.args.prefix.now (sym c.eq.ensures ∙ c.if-eq.true) in
    let first : slice_get (prefixes_of inside.cache.entries) 0 ≡ Some c.args.prefix.now = front-is inside.cache.entries c.front.result.now c.front.ensures ∙ ap Some same in
    ap (λ (v : BounderView). v.carried) (sym c.self.view_is) ∙ sym (front-stays p (prefixes_of inside.cache.entries) first)
    ∙ ap (λ (v : BounderView). carried_after p v.carried) c.self.view_is
