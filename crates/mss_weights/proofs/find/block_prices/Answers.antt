use Rattle.std.proofs.Common.{◌∷◌, [], arith}
use Rattle.std.proofs.lemmas.List.{length-append}
use Rattle.mss_lines.specs.SpacedNumbersLaws.{short-more}
use Rattle.mss_weights.proofs.find.block_prices.Goals as goal

pub loop-place-preserved : goal.loop-place-preserved
loop-place-preserved c = rw c.in_ok-push.ensures.ok (
  short-more c.loop-place.prices c.short.result c.loop-place.invariant.0 c.short.ensures,
  omega (arith, c.loop-place.invariant.1, length-append c.loop-place.prices (c.short.result ∷ [])),
)
