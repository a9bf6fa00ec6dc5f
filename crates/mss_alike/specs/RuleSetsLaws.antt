-- What holds of the members of a set of rules holds of every legal cycle.
use Rattle.std.proofs.Common.{◌≡◌, ℕ, ◌≤◌, Bool, true, false, List, Option, Some, None, arith}
use Rattle.std.specs.Prelude.{if◌then◌else◌}
use Rattle.std.specs.Option.{option_or}
use Rattle.mss_model.specs.declared.parts.TableParts.{TableParts}
use Rattle.mss_model.specs.Legality.{IsLegal, broken_rule, breaks_closed_or_fixed, breaks_suited, breaks_barred, breaks_equipment, breaks_daily, breaks_high, breaks_low, breaks_total}
use Rattle.mss_model.specs.Limits.{IsTables}
use Rattle.mss_model.specs.Peak.{peak}
use Rattle.mss_alike.specs.declared.rule_set.RuleSet.{RuleSet}
use Rattle.mss_alike.specs.declared.rule_set.RuleSet.TheVariants.{Legal, Canonical}
use Rattle.mss_alike.specs.Alike.{breaks_order}
use Rattle.mss_alike.specs.RuleSets.{IsMember, rule_of}
use Rattle.mss_alike.specs.CanonicalCyclesLaws.{lower-for-legal, none-for-legal}

pub legal-member : (set : RuleSet) (t : TableParts) (c : List ℕ) → IsMember set t c → IsLegal t c
legal-member Legal t c h = h
legal-member Canonical t c h = h.legal

-- a lower number of the members is one of the legal cycles
pub lower-of-all : (set : RuleSet) (t : TableParts) (a b n : ℕ) → IsTables t → ((c : List ℕ) → IsMember set t c → n ≤ peak t c a b)
    → (c : List ℕ) → IsLegal t c → n ≤ peak t c a b
lower-of-all Legal t a b n good h = h
lower-of-all Canonical t a b n good h = lower-for-legal t a b n good h

-- without a member there is no legal cycle
pub none-of-all : (set : RuleSet) (t : TableParts) → IsTables t → ((c : List ℕ) → IsMember set t c → ⊥) → (c : List ℕ) → IsLegal t c → ⊥
none-of-all Legal t good h = h
none-of-all Canonical t good h = none-for-legal t good h

-- ---- the numbers of the rules

one_rule : (broken : Bool) (n r : ℕ) (o : Option ℕ) → n ≤ 9 → (o ≡ Some r → r ≤ 9) → (if broken then Some n else o) ≡ Some r → r ≤ 9
one_rule true n r o h k e = let f : n ≡ r = cc in omega arith
one_rule false n r o h k e = k e

nothing : (r : ℕ) → None ≡ Some r → r ≤ 9
nothing r e = cc

broken-rule-small : (t : TableParts) (p : List ℕ) (r : ℕ) → broken_rule t p ≡ Some r → r ≤ 9
broken-rule-small t p r =
    one_rule (breaks_closed_or_fixed t p) 1 r _ (omega arith)
    (one_rule (breaks_suited t p) 2 r _ (omega arith)
    (one_rule (breaks_barred t p) 3 r _ (omega arith)
    (one_rule (breaks_equipment t p) 4 r _ (omega arith)
    (one_rule (breaks_daily t p) 5 r _ (omega arith)
    (one_rule (breaks_high t p) 6 r _ (omega arith)
    (one_rule (breaks_low t p) 7 r _ (omega arith)
    (one_rule (breaks_total t p) 8 r None (omega arith) (nothing r))))))))

either_rule : (a b : Option ℕ) (r : ℕ) → (a ≡ Some r → r ≤ 9) → (b ≡ Some r → r ≤ 9) → option_or a b ≡ Some r → r ≤ 9
either_rule None b r first second e = second e
either_rule (Some n) b r first second e = first e

-- a broken rule is one of nine
pub rule-small : (set : RuleSet) (t : TableParts) (p : List ℕ) (r : ℕ) → rule_of set t p ≡ Some r → r ≤ 9
rule-small Legal t p r = broken-rule-small t p r
rule-small Canonical t p r = either_rule (broken_rule t p) (if breaks_order t p then Some 9 else None) r
    (broken-rule-small t p r) (one_rule (breaks_order t p) 9 r None (omega arith) (nothing r))
