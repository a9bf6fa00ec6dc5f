use Rattle.std.proofs.Common.{◌≡◌, ◌+◌, ◌-◌, ◌*◌, ◌≤◌, length, take}
use Rattle.mss_model.specs.PartsOf.{parts_of}
use Rattle.mss_model.specs.TableWords.{slot_count}
use Rattle.mss_floor.specs.FlooredLists.{floored_census}
use Rattle.mss_pctl.specs.FirstLargest.{IsFirstLargest}
use Rattle.mss_bounds.specs.PrefixBound.{low_number}
use Rattle.mss_bounds.specs.Spots.{places_of}
use Rattle.mss_bounds.proofs.children.child_over.Given as goal

abbrev pub invariant-loop-place : goal.invariant-loop-place
invariant-loop-place g l =
    let E = g.E.Enclosure in
    record {
      bound : IsFirstLargest (low_number (floored_census E.joined) E.low_of (parts_of l.tables) l.child) (take l.place (places_of l.spots)) l.bound;
      lists : l.census.lists ≡ l.fn.census.lists;
      floors : l.floored ≡ l.fn.floored;
      counted : l.count ≤ l.fn.count + l.place * (slot_count (parts_of l.tables) + 1 - length l.child);
    }
