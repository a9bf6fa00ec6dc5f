use Rattle.std.proofs.Common.{◌≡◌, map}
use Rattle.std.specs.List.{range_with_len}
use Rattle.mss_weights.specs.Steady.{steady_list}
use Rattle.mss_weights.specs.BlockWeights.{weight_of}
use Rattle.mss_weights.specs.Rows.{IsRow}
use Rattle.mss_weights.proofs.rows.block_row.Given as goal

abbrev pub invariant-loop-offset : goal.invariant-loop-offset
invariant-loop-offset g l =
    IsRow l.power l.days l.block l.offset l.row.items × (l.row.items ≡ map (λ o. weight_of l.power (steady_list l.days l.block o)) (range_with_len 0 l.offset))
