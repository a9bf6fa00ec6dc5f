use Rattle.std.proofs.Common.{sym, ◌∙◌, arith}
use Rattle.mss_cert.specs.VersionsLaws.{version-spelled, no_version}
use Rattle.mss_cert.proofs.reading.version_of.Goals as goal

pub returns-in-Some : goal.returns-in-Some
returns-in-Some c = ((omega arith, omega arith), c.in-Some.ensures ∙ sym (version-spelled 1 c.in-Some.rest.now (omega arith)))

pub returns-in-Some-after : goal.returns-in-Some-after
returns-in-Some-after c = ((omega arith, omega arith), c.in-Some-after.ensures ∙ sym (version-spelled 2 c.in-Some-after.rest.now (omega arith)))

pub returns-in_default-after : goal.returns-in_default-after
returns-in_default-after c = no_version c.args.bytes.now c.in_default.ensures c.in_default-after.ensures
