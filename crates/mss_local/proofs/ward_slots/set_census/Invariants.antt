use Rattle.std.proofs.Common.{◌≡◌, ◌<◌, ◌≤◌, [], ◌∷◌, length, take}
use Rattle.std.specs.Prelude.{slice_index}
use Rattle.mss_model.specs.PartsOf.{parts_of}
use Rattle.mss_enclose.specs.Unit.{unit}
use Rattle.mss_enclose.specs.Kept.{joined_all, kept_convolution}
use Rattle.mss_census.specs.WardLists.{census_list, lists_of}
use Rattle.mss_local.specs.OwnSlots.{parts_at}
use Rattle.mss_local.proofs.ward_slots.set_census.Given as goal

abbrev pub invariant-loop-place : goal.invariant-loop-place
invariant-loop-place g l =
    let ls = lists_of (parts_of l.tables) in
    record {
      lists : l.census.lists ≡ ls;
      ward : l.census.ward ≡ l.ward;
      day : l.census.day ≡ l.day;
      reached : l.place < length l.slots → length l.census.options ≤ slice_index l.slots l.place;
      value : census_list kept_convolution ls l.ward l.day l.census.options ≡ joined_all kept_convolution (unit ∷ []) (parts_at ls l.ward l.day l.options (take l.place l.slots));
    }
