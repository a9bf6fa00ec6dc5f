use Rattle.std.proofs.Common.{◌≡◌, ℕ, ◌+◌, ◌-◌, ◌≤◌, List, [], ◌∷◌, ◌++◌, length, take, replicate, slice_index, sym, ap, ◌∙◌, arith}
use Rattle.std.proofs.lemmas.List.{length-append, length-replicate, take_more}
use Rattle.mss_model.specs.PartsOf.{parts_of}
use Rattle.mss_enclose.specs.Unit.{unit}
use Rattle.mss_enclose.specs.Kept.{joined_all, kept_convolution}
use Rattle.mss_census.specs.WardLists.{lists_of}
use Rattle.mss_local.specs.OwnSlots.{parts_at}
use Rattle.mss_local.proofs.OwnSlots.{pushed}
use Rattle.mss_local.proofs.ward_slots.set_census.Goals as goal

pub loop-place-preserved : goal.loop-place-preserved
loop-place-preserved g c =
    let ls = lists_of (parts_of c.args.tables.now) in
    let i = c.loop-place.invariant in
    let options : List ℕ = c.args.options.now in
    let slots : List ℕ = c.args.slots.now in
    let place : ℕ = c.loop-place.place in
    let slot : ℕ = slice_index slots place in
    let before : List ℕ = c.loop-place.census.options in
    let reached : length before ≤ slot = i.reached c.loop-place-test.true in
    let long : length (before ++ replicate (slot - length before) 0 ++ slice_index options slot ∷ []) ≡ slot + 1 =
    omega (arith, reached, length-append (before ++ replicate (slot - length before) 0) (slice_index options slot ∷ []), length-append before (replicate (slot - length before) 0), length-replicate {A = ℕ} (slot - length before) 0) in
    rw c.push_slot.ensures (record {
      lists = i.lists;
      ward = i.ward;
      day = i.day;
      reached = λ l. omega (arith, long, c.requires.own.rising place (place + 1) 0 (omega arith) l);
      value = pushed ls c.args.ward c.args.day options kept_convolution before (take place slots) slot reached i.value
          ∙ ap (λ xs. joined_all kept_convolution (unit ∷ []) (parts_at ls c.args.ward c.args.day options xs)) (sym (take_more slots place 0 c.loop-place-test.true));
    })
