use Rattle.std.proofs.Common.{◌≡◌, ◌+◌, ◌-◌, ◌*◌, ◌<◌, ◌≤◌, ℕ, length, slice_index}
use Rattle.mss_model.specs.PartsOf.{parts_of}
use Rattle.mss_model.specs.TableWords.{slot_count}
use Rattle.mss_floor.specs.FlooredLists.{floored_census}
use Rattle.mss_bounds.specs.PrefixBound.{low_number}
use Rattle.mss_bounds.specs.Spots.{place_of}
use Rattle.mss_bounds.proofs.ManyPlaces.{spot_at}
use Rattle.mss_bounds.proofs.children.idle_over.Given as goal

abbrev pub invariant-loop-place : goal.invariant-loop-place
invariant-loop-place g l =
    let E = g.E.Enclosure in
    record {
      lows : (i : ℕ) → i < l.place → slice_index l.lows i ≡ low_number (floored_census E.joined) E.low_of (parts_of l.tables) l.idle (place_of (spot_at l.spots i));
      floors : l.floored ≡ l.fn.floored;
      counted : l.count ≤ l.fn.count + l.place * (slot_count (parts_of l.tables) - length l.idle);
    }
