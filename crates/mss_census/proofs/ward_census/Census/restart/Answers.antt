use Rattle.std.proofs.Common.{sym, subst, ◌∙◌, arith}
use Rattle.mss_model.specs.Limits.{Between}
use Rattle.mss_census.specs.declared.ward_census.TheConstants.{CENSUS_ROOM}
use Rattle.mss_census.specs.CensusView.{IsRoomFor}
use Rattle.mss_census.proofs.ward_census.Census.restart.Goals as goal

pub invariant_of-self : goal.invariant_of-self
invariant_of-self g c =
    let E = g.E.Enclosure in
    record {
      value = c.reset.ensures.items;
      some_room = subst (Between 1 CENSUS_ROOM) (sym c.reset.ensures.size) c.self.invariant.some_room;
      value_room = subst (IsRoomFor E.joined c.self.inside.lists) (sym c.reset.ensures.size) c.self.invariant.value_room;
      scratch_room = c.self.invariant.scratch_room ∙ sym c.reset.ensures.size;
      within = omega arith;
      all_slots = c.self.invariant.all_slots;
      few_slots = c.self.invariant.few_slots;
    }
