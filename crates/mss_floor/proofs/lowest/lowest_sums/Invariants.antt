use Rattle.std.proofs.Common.{◌≡◌, ◌≤◌, map, length}
use Rattle.std.specs.List.{filter, range_with_len}
use Rattle.mss_model.specs.Occurrences.{offset}
use Rattle.mss_model.specs.PartsOf.{parts_of}
use Rattle.mss_model.specs.TableWords.{block_of}
use Rattle.mss_enclose.specs.Kept.{raised}
use Rattle.mss_floor.specs.FloorLists.{is_open_day, steady_list}
use Rattle.mss_floor.specs.LowestSums.{AreSums}
use Rattle.mss_floor.proofs.lowest.lowest_sums.Given as goal

abbrev pub invariant-loop-place : goal.invariant-loop-place
invariant-loop-place l =
    let t = parts_of l.tables in
    AreSums (map (λ q. raised (steady_list t.days (block_of t l.j) (offset t.days l.day q))) (filter (is_open_day t l.prefix l.j) (range_with_len 1 l.place))) l.sums l.len
    × (length l.sums ≡ 961) × (l.len ≤ 961)
