-- What the search over the members of a set of rules gives is a plan.
use Rattle.std.proofs.Common.{◌≡◌, ℕ, ◌+◌, ◌*◌, ◌^◌, ◌≤◌, false, IsTrue, List, length, Option, Some, None, Result, Ok, Err, IfOk, refl, sym, subst, arith, mul-le-mul}
use Rattle.std.specs.Prelude.{◌↔◌}
use Rattle.mss_model.specs.Limits.{IsTables}
use Rattle.mss_model.specs.Peak.{peak}
use Rattle.mss_model.specs.TableWords.{option_count}
use Rattle.mss_model.specs.declared.no_memory.NoMemory.{NoMemory}
use Rattle.mss_model.specs.declared.parts.TableParts.{TableParts}
use Rattle.mss_alike.specs.declared.rule_set.RuleSet.{RuleSet}
use Rattle.mss_alike.specs.RuleSets.{IsMember, rule_of}
use Rattle.mss_alike.specs.RuleSetsLaws.{legal-member, lower-of-all, none-of-all, rule-small}
use Rattle.mss_enclose.specs.Kept.{lean_convolution, LeanStands, lean_low}
use Rattle.mss_enclose.specs.LeanLaws.{length-lean_convolution, lean-start, lean-push, lean_low-at_most, lean-near, lean_low-near}
use Rattle.mss_floor.specs.FlooredLists.{floored_census}
use Rattle.mss_cert.specs.CertificateText.{IsShort, certificate_text}
use Rattle.mss_cert.specs.declared.certificate.End.{End}
use Rattle.mss_cert.specs.declared.certificate.End.TheVariants.{Lower, NoneLegal}
use Rattle.mss_check.specs.Validity.{IsValidFor, lean_task}
use Rattle.mss_bounds.specs.PrefixBound.{bound_of}
use Rattle.mss_search.specs.Plan.{IsFrugal}
use Rattle.mss_search.specs.Promises.{HasOpen, IsIncumbent, board_of}
use Rattle.mss_search.specs.Searching.{upper_of}
use Rattle.mss_search.specs.Standing.{HasNoFull}
use Rattle.mss_search.specs.declared.planner.Planned.{Planned}
use Rattle.mss_search.specs.ShortNumbersLaws.{plan_short}
use Rattle.mss_search.specs.UpperSidesLaws.{KindLaws}
use Rattle.mss_plan.specs.Plan.{IsBelowAll, IsLeastOfAll, IsPlan, IsSearch, certificate_limit, lower_of}
use Rattle.mss_plan.proofs.CertificateSize.{certificate-long}
use Rattle.mss_plan.proofs.NoCycle.{none_legal}

lean_laws : KindLaws lean_convolution LeanStands lean_low
lean_laws = record { starts = lean-start; sums = lean-push; low_at_most = lean_low-at_most; keeps_near = lean-near; low_at_least = lean_low-near; joined_length = length-lean_convolution }

-- what the search says of the members, clause by clause
pub record Clauses (set : RuleSet) (tables : TableParts) (p : Planned) : Type 0 where
  pub search : IsSearch (rule_of set) tables p
  pub few : length p.certificate.tree ≤ 1 + option_count tables * p.turns
  pub member : (cycle : List ℕ) → p.best ≡ Some cycle → IsMember set tables cycle
  pub peaks : (cycle : List ℕ) (n : ℕ) → p.best ≡ Some cycle → p.upper ≡ Some n → peak tables cycle tables.level 1000000 ≤ n
  pub lower : (n : ℕ) → p.certificate.end ≡ Lower n → (cycle : List ℕ) → IsMember set tables cycle → n ≤ peak tables cycle tables.level 1000000
  pub none : p.certificate.end ≡ NoneLegal → (cycle : List ℕ) → IsMember set tables cycle → ⊥
  pub closes : p.spent ≡ false → (n : ℕ) → p.upper ≡ Some n → (cycle : List ℕ) → IsMember set tables cycle → n ≤ peak tables cycle (tables.level * 2 ^ 30 + 1000000) (1000000 * 2 ^ 30)

module _ (set : RuleSet) (tables : TableParts) (good : IsTables tables) (p : Planned) (c : Clauses set tables p) where
  valid : IsValidFor (lean_task 2 (rule_of set) tables) tables p.certificate
  valid = subst (λ v. IsValidFor (lean_task v (rule_of set) tables) tables p.certificate) c.search.version c.search.valid

  is_short : IsShort p.certificate
  is_short = plan_short (rule_of set) lean_convolution LeanStands lean_low lean_laws tables good (λ q r e. omega (arith, rule-small set tables q r e))
      p.certificate p.turns c.search.version valid c.search.frugal

  is_within : length (certificate_text p.certificate) ≤ certificate_limit
  is_within =
      let options : option_count tables ≤ 25 = omega (arith, good.specialties.names.count.1) in
      let turns : p.turns ≤ 20000 = omega (arith, c.search.frugal.within, good.settings.budget.1) in
      let lines : option_count tables * p.turns ≤ 25 * 20000 = mul-le-mul options turns in
      omega (arith, certificate-long p.certificate is_short, c.few, lines)

  below_all : (end : End) → p.certificate.end ≡ end → IsBelowAll tables (lower_of end)
  below_all (Lower n) e = lower-of-all set tables tables.level 1000000 n good (c.lower n e)
  below_all NoneLegal e = none-of-all set tables good (c.none e)

  -- there is no upper number only where no line is full
  no_full : (best : Option (List ℕ)) (upper : Option ℕ) → IsIncumbent (lean_task 2 (rule_of set) tables) (upper_of tables) p.certificate.tree best upper → upper ≡ None
      → HasNoFull (board_of (lean_task 2 (rule_of set) tables) p.certificate.tree)
  no_full None None i e = i
  no_full None (Some n) i e = absurd i
  no_full (Some cycle) None i e = absurd i
  no_full (Some cycle) (Some n) i e = absurd (cc)

  no_open : p.spent ≡ false → HasOpen (lean_task 2 (rule_of set) tables) p.certificate.tree → ⊥
  no_open shut h = let k : IsTrue p.spent = c.search.spent.1 h in cc

  least_of_all : (upper : Option ℕ) → p.upper ≡ upper → p.spent ≡ false → IsLeastOfAll tables upper
  least_of_all (Some n) e shut = lower-of-all set tables (tables.level * 2 ^ 30 + 1000000) (1000000 * 2 ^ 30) n good (c.closes shut n e)
  least_of_all None e shut = none-of-all set tables good (c.none (none_legal (lean_task 2 (rule_of set) tables) tables (bound_of (floored_census lean_convolution) lean_low tables) (upper_of tables) tables.budget p.turns p.certificate
      valid c.search.frugal (no_open shut) (no_full p.best p.upper c.search.best e)))

  pub is_plan : IsPlan (rule_of set) tables p
  is_plan = record {
    search = c.search;
    short = is_short;
    within = is_within;
    legal = λ cycle e. legal-member set tables cycle (c.member cycle e);
    peaks = c.peaks;
    lower = below_all p.certificate.end refl;
    closes = least_of_all p.upper refl;
  }

-- what the search gives is a plan, where it gives something
pub plan_ok : (set : RuleSet) (tables : TableParts) → IsTables tables → (r : Result Planned NoMemory)
    → IfOk r (λ p. p.certificate.version ≡ 2)
    → IfOk r (λ p. IsValidFor (lean_task 2 (rule_of set) tables) tables p.certificate)
    → IfOk r (λ p. IsFrugal (lean_task 2 (rule_of set) tables) (bound_of (floored_census lean_convolution) lean_low tables) (upper_of tables) tables.budget p.certificate.tree p.turns)
    → IfOk r (λ p. IsIncumbent (lean_task 2 (rule_of set) tables) (upper_of tables) p.certificate.tree p.best p.upper)
    → IfOk r (λ p. IsTrue p.spent ↔ HasOpen (lean_task 2 (rule_of set) tables) p.certificate.tree)
    → IfOk r (λ p. length p.certificate.tree ≤ 1 + option_count tables * p.turns)
    → IfOk r (λ p. (cycle : List ℕ) → p.best ≡ Some cycle → IsMember set tables cycle)
    → IfOk r (λ p. (cycle : List ℕ) (n : ℕ) → p.best ≡ Some cycle → p.upper ≡ Some n → peak tables cycle tables.level 1000000 ≤ n)
    → IfOk r (λ p. (n : ℕ) → p.certificate.end ≡ Lower n → (cycle : List ℕ) → IsMember set tables cycle → n ≤ peak tables cycle tables.level 1000000)
    → IfOk r (λ p. p.certificate.end ≡ NoneLegal → (cycle : List ℕ) → IsMember set tables cycle → ⊥)
    → IfOk r (λ p. p.spent ≡ false → (n : ℕ) → p.upper ≡ Some n → (cycle : List ℕ) → IsMember set tables cycle
    → n ≤ peak tables cycle (tables.level * 2 ^ 30 + 1000000) (1000000 * 2 ^ 30))
    → IfOk r (IsPlan (rule_of set) tables)
plan_ok set tables good (Ok p) version valid frugal best spent few member peaks lower none closes = is_plan set tables good p (record {
  search = record {
    version = version;
    valid = subst (λ v. IsValidFor (lean_task v (rule_of set) tables) tables p.certificate) (sym version) valid;
    frugal = frugal;
    best = best;
    spent = spent;
  };
  few = few;
  member = member;
  peaks = peaks;
  lower = lower;
  none = none;
  closes = closes;
})
plan_ok set tables good (Err e) version valid frugal best spent few member peaks lower none closes = tt
