-- What a verdict over the canonical rules proves of the legal cycles.
use Rattle.std.proofs.Common.{Some, None}
use Rattle.mss_model.specs.declared.parts.TableParts.{TableParts}
use Rattle.mss_model.specs.Legality.{IsLegal}
use Rattle.mss_model.specs.Limits.{IsTables}
use Rattle.mss_alike.specs.Alike.{IsCanonical}
use Rattle.mss_alike.specs.CanonicalCyclesLaws.{lower-for-legal, none-for-legal}
use Rattle.mss_cert.specs.declared.verdict.Verdict.{Verdict}
use Rattle.mss_cert.specs.declared.verdict.Verdict.TheVariants.{Yes, No}
use Rattle.mss_check.specs.Validity.{Proves, peak_at_level}

pub proves_for_legal : (t : TableParts) → IsTables t → (v : Verdict) → Proves (IsCanonical t) (peak_at_level t) v → Proves (IsLegal t) (peak_at_level t) v
proves_for_legal t good (Yes (Some n)) h = lower-for-legal t t.level 1000000 n good h
proves_for_legal t good (Yes None) h = none-for-legal t good h
proves_for_legal t good (No line reason) h = tt
