use Rattle.std.proofs.Common.{◌≤◌, take}
use Rattle.mss_model.specs.PartsOf.{parts_of}
use Rattle.mss_census.specs.WardLists.{lists_of}
use Rattle.mss_local.proofs.OwnSlots.{AreOwnSoFar}
use Rattle.mss_local.proofs.ward_slots.find_slots.Given as goal

abbrev pub invariant-loop-slot : goal.invariant-loop-slot
invariant-loop-slot l = record {
  few : l.count ≤ l.slot;
  own : AreOwnSoFar (lists_of (parts_of l.tables)) l.ward l.options l.slot (take l.count l.found);
}
