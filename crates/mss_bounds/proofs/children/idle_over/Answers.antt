use Rattle.std.proofs.Common.{◌-◌, ◌<◌, [], ℕ, length, refl, sym, ap, ◌∙◌, arith, slice_index_or, le_refl, inl, inr, eq-eqb, ne_eqb}
use Rattle.std.proofs.lemmas.Bool.{cases_eq}
use Rattle.std.proofs.lemmas.List.{length-map}
use Rattle.mss_model.specs.declared.parts.TableParts.{TableParts}
use Rattle.mss_model.specs.PartsOf.{parts_of}
use Rattle.mss_model.specs.TableWords.{slot_count}
use Rattle.mss_census.specs.WardLists.{lists_of, census_list}
use Rattle.mss_floor.specs.FlooredLists.{floored_census}
use Rattle.mss_bounds.specs.PrefixBound.{low_number}
use Rattle.mss_bounds.specs.Spots.{place_of}
use Rattle.mss_bounds.proofs.FilledLists.{pushes-few, count-more}
use Rattle.mss_bounds.proofs.ManyPlaces.{spot_at, spot-known, list-at, places-few}
use Rattle.mss_bounds.proofs.Siblings.{list-beside, place-there}
use Rattle.mss_bounds.proofs.children.idle_over.Goals as goal

pub loop-place-init : goal.loop-place-init
loop-place-init g c = record {
  lows = λ i l. absurd (omega (arith, l));
  floors = refl;
  counted = omega arith;
}

pub low-low-requires-clause-ward : goal.low-low-requires-clause-ward
low-low-requires-clause-ward g c = (spot-known (parts_of c.args.tables.now) c.args.spots.now c.loop-place.place c.requires.spots (omega arith)).known

pub low-low-requires-clause-day : goal.low-low-requires-clause-day
low-low-requires-clause-day g c = (spot-known (parts_of c.args.tables.now) c.args.spots.now c.loop-place.place c.requires.spots (omega arith)).in_cycle

pub low-low-requires-clause-tables : goal.low-low-requires-clause-tables
low-low-requires-clause-tables g c = c.loop-place.invariant.floors ∙ c.requires.floors

-- the list of the parent is that of its idle child
pub low-low-requires-clause-list : goal.low-low-requires-clause-list
low-low-requires-clause-list g c =
    let t : TableParts = parts_of c.args.tables.now in
    let E = g.E.Enclosure in
    let i : ℕ = c.loop-place.place in
    let spot = spot_at c.args.spots.now c.loop-place.place in
    c.list-list.ensures ∙ ap (λ ls. slice_index_or ls i []) c.requires.held.lists_are ∙ list-at E.joined (lists_of t) c.args.spots.now c.args.parent.now.prefix i (omega arith)
    ∙ sym (list-beside E.joined (lists_of t) spot.ward spot.day 0 c.args.parent.now.prefix refl)
    ∙ ap (census_list E.joined (lists_of t) spot.ward spot.day) (sym c.requires.idle)

pub low-low-requires-clause-count : goal.low-low-requires-clause-count
low-low-requires-clause-count g c =
    let t : TableParts = parts_of c.args.tables.now in
    let few = pushes-few t c.args.spots.now c.loop-place.place (slot_count t) (length c.args.idle.now) c.args.tables.now.good c.requires.spots (omega arith) (le_refl (slot_count t)) in
    omega (arith, few.0, few.1, c.loop-place.invariant.counted, c.requires.count)

pub set_low-requires : goal.set_low-requires
set_low-requires g c =
    let t : TableParts = parts_of c.args.tables.now in
    omega (arith, places-few t c.args.tables.now.good, ap length c.requires.spots, length-map c.args.spots.now place_of)

-- one more number
pub loop-place-preserved : goal.loop-place-preserved
loop-place-preserved g c =
    let t : TableParts = parts_of c.args.tables.now in
    let E = g.E.Enclosure in
    let i : ℕ = c.loop-place.place in
    let few : c.loop-place.place < 224 = omega (arith, places-few t c.args.tables.now.good, ap length c.requires.spots, length-map c.args.spots.now place_of) in
    let value : ℕ → ℕ = λ k. low_number (floored_census E.joined) E.low_of t c.args.idle.now (place_of (spot_at c.args.spots.now k)) in
    record {
      lows = λ k l. c.set_low.ensures k (omega (arith, l, few)) ∙ elim (cases_eq k c.loop-place.place) [
        | inl same ↦ rw (eq-eqb k c.loop-place.place same) (c.low-low.ensures.value ∙ ap value (sym same))
        | inr other ↦ rw (ne_eqb k c.loop-place.place other) (c.loop-place.invariant.lows k (omega (arith, l, other)))
      ];
      floors = c.low-low.ensures.same ∙ c.loop-place.invariant.floors;
      counted = count-more c.low-low.new.count c.loop-place.count c.args.count.now i (slot_count t - length c.args.idle.now) (slot_count t - length c.args.idle.now)
          c.low-low.ensures.count refl c.loop-place.invariant.counted;
    }

pub returns-clause-idle : goal.returns-clause-idle
returns-clause-idle g c =
    let t : TableParts = parts_of c.args.tables.now in
    let E = g.E.Enclosure in
    record {
      lows = λ i l.
          let inside : i < length c.args.spots.now = omega (arith, l, ap length c.requires.spots, length-map c.args.spots.now place_of) in
          c.loop-place.invariant.lows i (omega (arith, inside)) ∙ ap (low_number (floored_census E.joined) E.low_of t c.args.idle.now) (sym (place-there t c.args.spots.now i c.requires.spots inside));
      blocks = c.forced_counts-blocks.ensures;
    }
