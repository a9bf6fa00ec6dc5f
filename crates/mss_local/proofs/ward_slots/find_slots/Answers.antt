use Rattle.std.proofs.Common.{◌≡◌, ℕ, ◌+◌, false, List, [], ◌∷◌, ◌++◌, length, take, slice_index, sym, ap, ◌∙◌, subst, arith}
use Rattle.std.proofs.lemmas.List.{take_all, take_more_set}
use Rattle.mss_model.specs.Occurrences.{lies_on}
use Rattle.mss_model.specs.PartsOf.{parts_of}
use Rattle.mss_census.specs.WardLists.{lists_of, parts_from}
use Rattle.mss_local.proofs.OwnSlots.{AreOwnSoFar, so_far-found, so_far-passed}
use Rattle.mss_local.proofs.ward_slots.find_slots.Goals.{then-lies_on, else-lies_on}
use Rattle.mss_local.proofs.ward_slots.find_slots.Goals as goal

pub loop-slot-preserved : goal.loop-slot-preserved
loop-slot-preserved c =
    let ls = lists_of (parts_of c.args.tables.now) in
    let options : List ℕ = c.args.options.now in
    let slot : ℕ = c.loop-slot.slot in
    let count : ℕ = c.loop-slot.count in
    let found : List ℕ = c.loop-slot.found in
    let i = c.loop-slot.invariant in
    elim c.if-lies_on.branch [
      | then-lies_on w ↦
          let more : take c.if-lies_on.count c.if-lies_on.found ≡ take count found ++ slot ∷ [] =
          ap (λ n. take n c.if-lies_on.found) w.count-is ∙ ap (take (count + 1)) w.found-is
          ∙ take_more_set found count slot (omega (arith, c.if-lies_on.array_long, i.few, c.loop-slot-test.true, c.requires.whole, c.slots-slots.ensures.value, c.slots-slots.ensures.limits.1)) in
          record {
            few = omega (arith, w.count-is, i.few);
            own = subst (AreOwnSoFar ls c.args.ward options (slot + 1)) (sym more) (so_far-found ls c.args.ward options slot (take count found) c.loop-slot-test.true i.own);
          }
      | else-lies_on w ↦
          let off : lies_on (parts_of c.args.tables.now).ward_of c.args.ward (slice_index options slot) ≡ false = sym c.lies_on.ensures ∙ w.if-lies_on.false in
          let same : take c.if-lies_on.count c.if-lies_on.found ≡ take count found = ap (λ n. take n c.if-lies_on.found) w.count-is ∙ ap (take count) w.found-is in
          record {
            few = omega (arith, w.count-is, i.few);
            own = subst (AreOwnSoFar ls c.args.ward options (slot + 1)) (sym same) (so_far-passed ls c.args.ward options slot (take count found) c.loop-slot-test.true i.own off);
          }
    ]

pub returns-clause-own : goal.returns-clause-own
returns-clause-own c =
    let ls = lists_of (parts_of c.args.tables.now) in
    let options : List ℕ = c.args.options.now in
    let i = c.loop-slot.invariant in
    let ended : c.loop-slot.slot ≡ length options = omega (arith, c.loop-slot-test.false, c.loop-slot.auto.slot-end) in
    let own : AreOwnSoFar ls c.args.ward options (length options) (take c.loop-slot.count c.loop-slot.found)
    = subst (λ n. AreOwnSoFar ls c.args.ward options n (take c.loop-slot.count c.loop-slot.found)) ended i.own in
    record {
      rising = own.rising;
      inside = own.inside;
      all_parts = λ day. own.all_parts day ∙ ap (parts_from ls c.args.ward day 0) (take_all (length options) options (omega arith));
    }
