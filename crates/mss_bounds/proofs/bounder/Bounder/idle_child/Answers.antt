use Rattle.std.proofs.Common.{◌≡◌, ◌≤◌, ◌-◌, ℕ, List, [], ◌∷◌, ◌++◌, length, sym, ap, ◌∙◌, Some, refl, arith}
use Rattle.std.specs.Prelude.{slice_get}
use Rattle.std.proofs.lemmas.List.{length-take}
use Rattle.mss_model.specs.declared.parts.TableParts.{TableParts}
use Rattle.mss_model.specs.PartsOf.{parts_of}
use Rattle.mss_model.specs.TableWords.{slot_count}
use Rattle.mss_census.specs.WardLists.{lists_of}
use Rattle.mss_bounds.specs.Spots.{places_of}
use Rattle.mss_bounds.specs.CarriedLists.{IsHeld, prefixes_of}
use Rattle.mss_bounds.specs.CarriedPrefixes.{longest}
use Rattle.mss_bounds.specs.BounderView.{BounderView, IsCarrying}
use Rattle.mss_bounds.specs.Children.{parent_of}
use Rattle.mss_bounds.proofs.CarriedChoice.{after-front}
use Rattle.mss_bounds.proofs.CarriedOn.{at-held, carrying-of, front-prefix}
use Rattle.mss_bounds.proofs.FilledLists.{carried-pushes}
use Rattle.mss_bounds.proofs.bounder.Bounder.idle_child.Goals as goal

-- the front place has the lists of its prefix
pub idle_over-requires-clause-held : goal.idle_over-requires-clause-held
idle_over-requires-clause-held g c =
    let E = g.E.Enclosure in
    let inside = c.self.inside in
    let t : TableParts = parts_of c.args.tables.now in
    let lists : inside.census.lists ≡ lists_of t = ap (λ (v : BounderView). v.lists) c.self.view_is ∙ c.carry_counted.ensures.tables.lists_are in
    let carrying : IsCarrying E.joined (lists_of t) (places_of c.deref.result.now) inside.cache.entries inside.working =
    carrying-of E.joined inside.census.lists (lists_of t) (places_of inside.spots.items) (places_of c.deref.result.now) inside.cache.entries inside.cache.entries inside.working
    lists (ap places_of (sym c.deref.ensures.value)) refl c.self.invariant in
    at-held (IsHeld E.joined (lists_of t) (places_of c.deref.result.now)) inside.cache.entries 0 c.front.result.now carrying.held c.front.ensures

pub idle_over-requires-clause-floors : goal.idle_over-requires-clause-floors
idle_over-requires-clause-floors g c = ap (λ (v : BounderView). v.floors) c.self.view_is ∙ c.carry_counted.ensures.tables.floors_are

-- no count comes near its limit
pub idle_over-requires-clause-count : goal.idle_over-requires-clause-count
idle_over-requires-clause-count g c =
    let p : List ℕ = parent_of c.args.idle.now in
    let inside : length (parent_of c.args.idle.now) ≤ slot_count (parts_of c.args.tables.now) = omega (arith, length-take (length c.args.idle.now - 1) c.args.idle.now, c.requires.long) in
    let few = carried-pushes (parts_of c.args.tables.now) (length p) (longest p c.args.self.now.carried) c.args.tables.now.good inside in
    omega (arith, few, c.carry_counted.ensures.count)

-- it is the parent
pub idle_over-requires-clause-idle : goal.idle_over-requires-clause-idle
idle_over-requires-clause-idle g c =
    let inside = c.self.inside in
    let p : List ℕ = parent_of c.args.idle.now in
    let first : slice_get (prefixes_of inside.cache.entries) 0 ≡ Some p =
    ap (λ (v : BounderView). slice_get v.carried 0) c.self.view_is ∙ ap (λ (cs : List (List ℕ)). slice_get cs 0) c.carry_counted.ensures.order ∙ after-front p c.args.self.now.carried in
    c.requires.idle ∙ ap (λ (q : List ℕ). q ++ 0 ∷ []) (sym (front-prefix inside.cache.entries c.front.result.now p c.front.ensures first))
