use Rattle.std.proofs.Common.{◌≡◌, ◌*◌, ◌≤◌, sum, take}
use Rattle.mss_model.proofs.one_block.is_patients.Given as goal

abbrev pub invariant-loop-chance : goal.invariant-loop-chance
invariant-loop-chance l = (l.total ≡ sum (take l.chance-index l.patients)) × (l.total ≤ 4294967295 * l.chance-index)
