use Rattle.std.proofs.Common.{◌-◌, ◌+◌, [], ℕ, length, take, refl, subst, sym, ap, ◌∙◌, arith, slice_index_or}
use Rattle.std.proofs.lemmas.List.{length-map}
use Rattle.mss_model.specs.declared.parts.TableParts.{TableParts}
use Rattle.mss_model.specs.PartsOf.{parts_of}
use Rattle.mss_model.specs.TableWords.{slot_count}
use Rattle.mss_census.specs.WardLists.{lists_of, census_list}
use Rattle.mss_floor.specs.FlooredLists.{floored_census}
use Rattle.mss_pctl.specs.Peaks.{Place}
use Rattle.mss_bounds.specs.Children.{idle_sibling}
use Rattle.mss_pctl.specs.FirstLargest.{IsFirstLargest}
use Rattle.mss_bounds.specs.PrefixBound.{low_number}
use Rattle.mss_bounds.specs.Spots.{place_of, places_of}
use Rattle.mss_bounds.proofs.FilledLists.{count-more}
use Rattle.mss_bounds.proofs.ManyPlaces.{spot_at, spot-known, list-at, places-few, places-more}
use Rattle.mss_bounds.proofs.Siblings.{place-there, child-pushes}
use Rattle.mss_bounds.proofs.children.child_over.Goals as goal

pub loop-place-init : goal.loop-place-init
loop-place-init g c = record {
  bound = c.none-bound.ensures (low_number (floored_census g.E.Enclosure.joined) g.E.Enclosure.low_of (parts_of c.args.tables.now) c.args.child.now);
  lists = refl;
  floors = refl;
  counted = omega arith;
}

pub bounds-idle-place : goal.bounds-idle-place
bounds-idle-place g c = omega (arith, places-few (parts_of c.args.tables.now) c.args.tables.now.good, ap length c.requires.spots, length-map c.args.spots.now place_of)

pub child_low-low-requires-clause-tables : goal.child_low-low-requires-clause-tables
child_low-low-requires-clause-tables g c = c.loop-place.invariant.lists ∙ c.requires.tables

pub child_low-low-requires-clause-ward : goal.child_low-low-requires-clause-ward
child_low-low-requires-clause-ward g c = (spot-known (parts_of c.args.tables.now) c.args.spots.now c.loop-place.place c.requires.spots (omega arith)).known

pub child_low-low-requires-clause-day : goal.child_low-low-requires-clause-day
child_low-low-requires-clause-day g c = (spot-known (parts_of c.args.tables.now) c.args.spots.now c.loop-place.place c.requires.spots (omega arith)).in_cycle

pub child_low-low-requires-clause-list : goal.child_low-low-requires-clause-list
child_low-low-requires-clause-list g c =
    let t : TableParts = parts_of c.args.tables.now in
    let E = g.E.Enclosure in
    let i : ℕ = c.loop-place.place in
    let spot = spot_at c.args.spots.now c.loop-place.place in
    c.list.ensures ∙ ap (λ ls. slice_index_or ls i []) c.requires.held.lists_are ∙ list-at E.joined (lists_of t) c.args.spots.now c.args.parent.now.prefix i (omega arith)
    ∙ ap (census_list E.joined (lists_of t) spot.ward spot.day) c.requires.parent

pub child_low-low-requires-clause-idle : goal.child_low-low-requires-clause-idle
child_low-low-requires-clause-idle g c =
    let t : TableParts = parts_of c.args.tables.now in
    let E = g.E.Enclosure in
    let i : ℕ = c.loop-place.place in
    c.requires.idle.lows i (omega (arith, ap length c.requires.spots, length-map c.args.spots.now place_of))
    ∙ ap (low_number (floored_census E.joined) E.low_of t (idle_sibling c.args.child.now)) (place-there t c.args.spots.now i c.requires.spots (omega arith))

pub child_low-low-requires-clause-floors : goal.child_low-low-requires-clause-floors
child_low-low-requires-clause-floors g c = c.loop-place.invariant.floors ∙ c.requires.floors

pub child_low-low-requires-clause-count : goal.child_low-low-requires-clause-count
child_low-low-requires-clause-count g c =
    let t : TableParts = parts_of c.args.tables.now in
    let few = child-pushes t c.args.spots.now c.loop-place.place (length c.args.child.now) c.args.tables.now.good c.requires.spots (omega arith) in
    omega (arith, few.0, few.1, c.loop-place.invariant.counted, c.requires.count)

pub with-bound-requires : goal.with-bound-requires
with-bound-requires g c =
    let known = spot-known (parts_of c.args.tables.now) c.args.spots.now c.loop-place.place c.requires.spots (omega arith) in
    omega (arith, known.known.0)

-- one more place
pub loop-place-preserved : goal.loop-place-preserved
loop-place-preserved g c =
    let t : TableParts = parts_of c.args.tables.now in
    let E = g.E.Enclosure in
    let value : Place → ℕ = low_number (floored_census E.joined) E.low_of t c.args.child.now in
    let i : ℕ = c.loop-place.place in
    record {
      bound = subst (λ ps. IsFirstLargest value ps c.with-bound.result) (sym (places-more c.args.spots.now i (omega arith)))
          (c.with-bound.ensures value (take i (places_of c.args.spots.now)) c.child_low-low.ensures.value c.loop-place.invariant.bound);
      lists = c.child_low-low.ensures.lists ∙ c.loop-place.invariant.lists;
      floors = c.child_low-low.ensures.floors ∙ c.loop-place.invariant.floors;
      counted = count-more c.child_low-low.new.count c.loop-place.count c.args.count.now i (slot_count t + 1 - length c.args.child.now) (slot_count t + 1 - length c.args.child.now)
          c.child_low-low.ensures.count refl c.loop-place.invariant.counted;
    }
