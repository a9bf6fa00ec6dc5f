use Rattle.std.proofs.Common.{◌+◌, ◌*◌, ◌≤◌, arith}
use Rattle.mss_enclose.specs.Unit.{unit}
use Rattle.mss_enclose.specs.Words.{masses_list}
use Rattle.mss_enclose.specs.Kept.{rest_of}
use Rattle.mss_enclose.specs.NumberLaws.{masses_low-inside, masses_high-inside}
use Rattle.mss_pctl.proofs.peak.beds_pair.Goals as goal

-- the numbers of a list are below its length
pub overflow_add-result : goal.overflow_add-result
overflow_add-result c =
    omega (
      arith,
      c.pair-low.ensures.low,
      c.len-len.ensures.value,
      c.len-len.ensures.few,
      c.allow-allow.ensures.limits,
      masses_low-inside (masses_list c.args.masses.now) c.level.result (omega (arith, c.len-len.ensures.value, c.len-len.ensures.some)) (omega (arith, c.level.ensures.limits.1)),
    )

pub overflow_add-result-2 : goal.overflow_add-result-2
overflow_add-result-2 c =
    let enough : rest_of (masses_list c.args.masses.now) * 1000000 + c.level.result * unit ≤ 1000000 * unit = omega (arith, c.requires.small, c.level.ensures.limits.1) in
    omega (
      arith,
      c.pair-low.ensures.high,
      c.len-len.ensures.value,
      c.len-len.ensures.few,
      c.allow-allow.ensures.limits,
      masses_high-inside (masses_list c.args.masses.now) c.level.result (omega (arith, c.len-len.ensures.value, c.len-len.ensures.some)) enough,
    )
