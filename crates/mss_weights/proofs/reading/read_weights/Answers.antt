use Rattle.mss_weights.specs.WeightTextsLaws.{reads_only}
use Rattle.mss_weights.proofs.reading.read_weights.Goals as goal

pub returns-clause-only : goal.returns-clause-only
returns-clause-only c = reads_only c.args.bytes.now c.read_lines.result c.read_lines.ensures.found c.read_lines.ensures.fault
