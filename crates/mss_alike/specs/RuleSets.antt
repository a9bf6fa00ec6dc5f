-- The rules and the members of each set of rules.
use Rattle.std.specs.Prelude.{ℕ, List, Option}
use Rattle.mss_model.specs.declared.parts.TableParts.{TableParts}
use Rattle.mss_model.specs.Legality.{IsLegal, broken_rule}
use Rattle.mss_alike.specs.declared.rule_set.RuleSet.{RuleSet}
use Rattle.mss_alike.specs.declared.rule_set.RuleSet.TheVariants.{Legal, Canonical}
use Rattle.mss_alike.specs.Alike.{IsCanonical, canonical_rule}

-- the rule that makes a prefix dead
abbrev pub rule_of : RuleSet → TableParts → List ℕ → Option ℕ
rule_of Legal = broken_rule
rule_of Canonical = canonical_rule

-- the cycles that the rules admit
abbrev pub IsMember : RuleSet → TableParts → List ℕ → Type 0
IsMember Legal = IsLegal
IsMember Canonical = IsCanonical
