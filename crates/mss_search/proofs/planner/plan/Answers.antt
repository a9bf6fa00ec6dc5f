use Rattle.std.proofs.Common.{◌≡◌, ℕ, ◌+◌, ◌*◌, ◌≤◌, false, List, length, Some, IsTrue, Result, Ok, Err, IfOk}
use Rattle.std.specs.Prelude.{◌↔◌}
use Rattle.mss_model.specs.Peak.{peak_at, peak_below, peak_above}
use Rattle.mss_model.specs.PartsOf.{parts_of}
use Rattle.mss_model.specs.TableWords.{option_count}
use Rattle.mss_floor.specs.FlooredLists.{floored_census}
use Rattle.mss_cert.specs.declared.certificate.End.TheVariants.{Lower, NoneLegal}
use Rattle.mss_bounds.specs.PrefixBound.{bound_of}
use Rattle.mss_check.specs.Tasks.{task_of}
use Rattle.mss_check.specs.Validity.{IsValidFor}
use Rattle.mss_search.specs.Plan.{IsFrugal}
use Rattle.mss_search.specs.Searching.{upper_of}
use Rattle.mss_search.specs.Promises.{IsPlanOf, IsIncumbent, HasOpen, Reaches, IsTight}
use Rattle.mss_search.specs.UpperSidesLaws.{KindLaws}
use Rattle.mss_search.proofs.SoundTasks.{RuleLaws}
use Rattle.mss_search.proofs.Outcome.{valid, frugal, incumbent, spent_is, few, member, peaks, lower, none, closing, reaching, tight}
use Rattle.mss_search.proofs.planner.plan.Goals as goal

-- what follows for each value follows for the result
from_ok : {V E : Type 0} (P Q : V → Type 0) (r : Result V E) → ((v : V) → P v → Q v) → IfOk r P → IfOk r Q
from_ok P Q (Ok v) f h = f v h
from_ok P Q (Err e) f h = h

pub returns-clause-version : goal.returns-clause-version
returns-clause-version g c =
    let t = parts_of c.args.tables.now in let s = c.in_ok-search.search in
    from_ok (IsPlanOf t s.nodes.items s.queue s.best s.turns) (λ p. p.certificate.version ≡ 2) c.finish.result (λ p f. f.version) c.finish.ensures

pub returns-clause-valid : goal.returns-clause-valid
returns-clause-valid g c =
    let t = parts_of c.args.tables.now in let E = g.E.Enclosure in let R = g.R.Rules in let s = c.in_ok-search.search in
    let kind : KindLaws E.joined E.stands_for E.low_of = record { starts = g.met.E.Enclosure.starts; sums = g.met.E.Enclosure.sums; low_at_most = g.met.E.Enclosure.low_at_most; keeps_near = g.met.E.Enclosure.keeps_near; low_at_least = g.met.E.Enclosure.low_at_least; joined_length = g.met.E.Enclosure.joined_length } in
    let rules : RuleLaws R.rule R.Member = record { alive = g.met.R.Rules.alive; full = g.met.R.Rules.full; legal = g.met.R.Rules.legal } in
    from_ok (IsPlanOf t s.nodes.items s.queue s.best s.turns) (λ p. IsValidFor (task_of R.rule (floored_census E.joined) E.low_of t) t p.certificate) c.finish.result
    (λ p f. valid R.rule R.Member E.joined E.stands_for E.low_of rules kind t c.args.tables.now.good s.nodes.items s.queue s.best s.turns c.in_ok-search.ensures.search p f) c.finish.ensures

pub returns-clause-frugal : goal.returns-clause-frugal
returns-clause-frugal g c =
    let t = parts_of c.args.tables.now in let E = g.E.Enclosure in let R = g.R.Rules in let s = c.in_ok-search.search in
    let kind : KindLaws E.joined E.stands_for E.low_of = record { starts = g.met.E.Enclosure.starts; sums = g.met.E.Enclosure.sums; low_at_most = g.met.E.Enclosure.low_at_most; keeps_near = g.met.E.Enclosure.keeps_near; low_at_least = g.met.E.Enclosure.low_at_least; joined_length = g.met.E.Enclosure.joined_length } in
    let rules : RuleLaws R.rule R.Member = record { alive = g.met.R.Rules.alive; full = g.met.R.Rules.full; legal = g.met.R.Rules.legal } in
    from_ok (IsPlanOf t s.nodes.items s.queue s.best s.turns) (λ p. IsFrugal (task_of R.rule (floored_census E.joined) E.low_of t) (bound_of (floored_census E.joined) E.low_of t) (upper_of t) t.budget p.certificate.tree p.turns) c.finish.result
    (λ p f. frugal R.rule R.Member E.joined E.stands_for E.low_of rules kind t c.args.tables.now.good s.nodes.items s.queue s.best s.turns c.in_ok-search.ensures.search p f c.in_ok-search.ensures.within c.in_ok-search.ensures.spent) c.finish.ensures

pub returns-clause-best : goal.returns-clause-best
returns-clause-best g c =
    let t = parts_of c.args.tables.now in let E = g.E.Enclosure in let R = g.R.Rules in let s = c.in_ok-search.search in
    let kind : KindLaws E.joined E.stands_for E.low_of = record { starts = g.met.E.Enclosure.starts; sums = g.met.E.Enclosure.sums; low_at_most = g.met.E.Enclosure.low_at_most; keeps_near = g.met.E.Enclosure.keeps_near; low_at_least = g.met.E.Enclosure.low_at_least; joined_length = g.met.E.Enclosure.joined_length } in
    let rules : RuleLaws R.rule R.Member = record { alive = g.met.R.Rules.alive; full = g.met.R.Rules.full; legal = g.met.R.Rules.legal } in
    from_ok (IsPlanOf t s.nodes.items s.queue s.best s.turns) (λ p. IsIncumbent (task_of R.rule (floored_census E.joined) E.low_of t) (upper_of t) p.certificate.tree p.best p.upper) c.finish.result
    (λ p f. incumbent R.rule R.Member E.joined E.stands_for E.low_of rules kind t c.args.tables.now.good s.nodes.items s.queue s.best s.turns c.in_ok-search.ensures.search p f) c.finish.ensures

pub returns-clause-spent : goal.returns-clause-spent
returns-clause-spent g c =
    let t = parts_of c.args.tables.now in let E = g.E.Enclosure in let R = g.R.Rules in let s = c.in_ok-search.search in
    let kind : KindLaws E.joined E.stands_for E.low_of = record { starts = g.met.E.Enclosure.starts; sums = g.met.E.Enclosure.sums; low_at_most = g.met.E.Enclosure.low_at_most; keeps_near = g.met.E.Enclosure.keeps_near; low_at_least = g.met.E.Enclosure.low_at_least; joined_length = g.met.E.Enclosure.joined_length } in
    let rules : RuleLaws R.rule R.Member = record { alive = g.met.R.Rules.alive; full = g.met.R.Rules.full; legal = g.met.R.Rules.legal } in
    from_ok (IsPlanOf t s.nodes.items s.queue s.best s.turns) (λ p. IsTrue p.spent ↔ HasOpen (task_of R.rule (floored_census E.joined) E.low_of t) p.certificate.tree) c.finish.result
    (λ p f. spent_is R.rule R.Member E.joined E.stands_for E.low_of rules kind t c.args.tables.now.good s.nodes.items s.queue s.best s.turns c.in_ok-search.ensures.search p f) c.finish.ensures

pub returns-clause-few : goal.returns-clause-few
returns-clause-few g c =
    let t = parts_of c.args.tables.now in let E = g.E.Enclosure in let R = g.R.Rules in let s = c.in_ok-search.search in
    let kind : KindLaws E.joined E.stands_for E.low_of = record { starts = g.met.E.Enclosure.starts; sums = g.met.E.Enclosure.sums; low_at_most = g.met.E.Enclosure.low_at_most; keeps_near = g.met.E.Enclosure.keeps_near; low_at_least = g.met.E.Enclosure.low_at_least; joined_length = g.met.E.Enclosure.joined_length } in
    let rules : RuleLaws R.rule R.Member = record { alive = g.met.R.Rules.alive; full = g.met.R.Rules.full; legal = g.met.R.Rules.legal } in
    from_ok (IsPlanOf t s.nodes.items s.queue s.best s.turns) (λ p. length p.certificate.tree ≤ 1 + option_count t * p.turns) c.finish.result
    (λ p f. few R.rule R.Member E.joined E.stands_for E.low_of rules kind t c.args.tables.now.good s.nodes.items s.queue s.best s.turns c.in_ok-search.ensures.search p f) c.finish.ensures

pub returns-clause-member : goal.returns-clause-member
returns-clause-member g c =
    let t = parts_of c.args.tables.now in let E = g.E.Enclosure in let R = g.R.Rules in let s = c.in_ok-search.search in
    let kind : KindLaws E.joined E.stands_for E.low_of = record { starts = g.met.E.Enclosure.starts; sums = g.met.E.Enclosure.sums; low_at_most = g.met.E.Enclosure.low_at_most; keeps_near = g.met.E.Enclosure.keeps_near; low_at_least = g.met.E.Enclosure.low_at_least; joined_length = g.met.E.Enclosure.joined_length } in
    let rules : RuleLaws R.rule R.Member = record { alive = g.met.R.Rules.alive; full = g.met.R.Rules.full; legal = g.met.R.Rules.legal } in
    from_ok (IsPlanOf t s.nodes.items s.queue s.best s.turns) (λ p. (cycle : List ℕ) → p.best ≡ Some cycle → R.Member t cycle) c.finish.result
    (λ p f. member R.rule R.Member E.joined E.stands_for E.low_of rules kind t c.args.tables.now.good s.nodes.items s.queue s.best s.turns c.in_ok-search.ensures.search p f) c.finish.ensures

pub returns-clause-peaks : goal.returns-clause-peaks
returns-clause-peaks g c =
    let t = parts_of c.args.tables.now in let E = g.E.Enclosure in let R = g.R.Rules in let s = c.in_ok-search.search in
    let kind : KindLaws E.joined E.stands_for E.low_of = record { starts = g.met.E.Enclosure.starts; sums = g.met.E.Enclosure.sums; low_at_most = g.met.E.Enclosure.low_at_most; keeps_near = g.met.E.Enclosure.keeps_near; low_at_least = g.met.E.Enclosure.low_at_least; joined_length = g.met.E.Enclosure.joined_length } in
    let rules : RuleLaws R.rule R.Member = record { alive = g.met.R.Rules.alive; full = g.met.R.Rules.full; legal = g.met.R.Rules.legal } in
    from_ok (IsPlanOf t s.nodes.items s.queue s.best s.turns) (λ p. (cycle : List ℕ) (n : ℕ) → p.best ≡ Some cycle → p.upper ≡ Some n → peak_at t cycle t.level ≤ n) c.finish.result
    (λ p f. peaks R.rule R.Member E.joined E.stands_for E.low_of rules kind t c.args.tables.now.good s.nodes.items s.queue s.best s.turns c.in_ok-search.ensures.search p f) c.finish.ensures

pub returns-clause-lower : goal.returns-clause-lower
returns-clause-lower g c =
    let t = parts_of c.args.tables.now in let E = g.E.Enclosure in let R = g.R.Rules in let s = c.in_ok-search.search in
    let kind : KindLaws E.joined E.stands_for E.low_of = record { starts = g.met.E.Enclosure.starts; sums = g.met.E.Enclosure.sums; low_at_most = g.met.E.Enclosure.low_at_most; keeps_near = g.met.E.Enclosure.keeps_near; low_at_least = g.met.E.Enclosure.low_at_least; joined_length = g.met.E.Enclosure.joined_length } in
    let rules : RuleLaws R.rule R.Member = record { alive = g.met.R.Rules.alive; full = g.met.R.Rules.full; legal = g.met.R.Rules.legal } in
    from_ok (IsPlanOf t s.nodes.items s.queue s.best s.turns) (λ p. (n : ℕ) → p.certificate.end ≡ Lower n → (cycle : List ℕ) → R.Member t cycle → n ≤ peak_at t cycle t.level) c.finish.result
    (λ p f. lower R.rule R.Member E.joined E.stands_for E.low_of rules kind t c.args.tables.now.good s.nodes.items s.queue s.best s.turns c.in_ok-search.ensures.search p f) c.finish.ensures

pub returns-clause-none : goal.returns-clause-none
returns-clause-none g c =
    let t = parts_of c.args.tables.now in let E = g.E.Enclosure in let R = g.R.Rules in let s = c.in_ok-search.search in
    let kind : KindLaws E.joined E.stands_for E.low_of = record { starts = g.met.E.Enclosure.starts; sums = g.met.E.Enclosure.sums; low_at_most = g.met.E.Enclosure.low_at_most; keeps_near = g.met.E.Enclosure.keeps_near; low_at_least = g.met.E.Enclosure.low_at_least; joined_length = g.met.E.Enclosure.joined_length } in
    let rules : RuleLaws R.rule R.Member = record { alive = g.met.R.Rules.alive; full = g.met.R.Rules.full; legal = g.met.R.Rules.legal } in
    from_ok (IsPlanOf t s.nodes.items s.queue s.best s.turns) (λ p. p.certificate.end ≡ NoneLegal → (cycle : List ℕ) → R.Member t cycle → ⊥) c.finish.result
    (λ p f. none R.rule R.Member E.joined E.stands_for E.low_of rules kind t c.args.tables.now.good s.nodes.items s.queue s.best s.turns c.in_ok-search.ensures.search p f) c.finish.ensures

pub returns-clause-closes : goal.returns-clause-closes
returns-clause-closes g c =
    let t = parts_of c.args.tables.now in let E = g.E.Enclosure in let R = g.R.Rules in let s = c.in_ok-search.search in
    let kind : KindLaws E.joined E.stands_for E.low_of = record { starts = g.met.E.Enclosure.starts; sums = g.met.E.Enclosure.sums; low_at_most = g.met.E.Enclosure.low_at_most; keeps_near = g.met.E.Enclosure.keeps_near; low_at_least = g.met.E.Enclosure.low_at_least; joined_length = g.met.E.Enclosure.joined_length } in
    let rules : RuleLaws R.rule R.Member = record { alive = g.met.R.Rules.alive; full = g.met.R.Rules.full; legal = g.met.R.Rules.legal } in
    from_ok (IsPlanOf t s.nodes.items s.queue s.best s.turns) (λ p. p.spent ≡ false → (n : ℕ) → p.upper ≡ Some n → (cycle : List ℕ) → R.Member t cycle → n ≤ peak_above t cycle t.level) c.finish.result
    (λ p f. closing R.rule R.Member E.joined E.stands_for E.low_of rules kind t c.args.tables.now.good s.nodes.items s.queue s.best s.turns c.in_ok-search.ensures.search p f) c.finish.ensures

pub returns-clause-reaches : goal.returns-clause-reaches
returns-clause-reaches g c =
    let t = parts_of c.args.tables.now in let E = g.E.Enclosure in let R = g.R.Rules in let s = c.in_ok-search.search in
    let kind : KindLaws E.joined E.stands_for E.low_of = record { starts = g.met.E.Enclosure.starts; sums = g.met.E.Enclosure.sums; low_at_most = g.met.E.Enclosure.low_at_most; keeps_near = g.met.E.Enclosure.keeps_near; low_at_least = g.met.E.Enclosure.low_at_least; joined_length = g.met.E.Enclosure.joined_length } in
    let rules : RuleLaws R.rule R.Member = record { alive = g.met.R.Rules.alive; full = g.met.R.Rules.full; legal = g.met.R.Rules.legal } in
    from_ok (IsPlanOf t s.nodes.items s.queue s.best s.turns) (λ p. p.spent ≡ false → (n : ℕ) → p.upper ≡ Some n → Reaches p.certificate n) c.finish.result
    (λ p f. reaching R.rule R.Member E.joined E.stands_for E.low_of rules kind t c.args.tables.now.good s.nodes.items s.queue s.best s.turns c.in_ok-search.ensures.search p f) c.finish.ensures

pub returns-clause-tight : goal.returns-clause-tight
returns-clause-tight g c =
    let t = parts_of c.args.tables.now in let E = g.E.Enclosure in let R = g.R.Rules in let s = c.in_ok-search.search in
    let kind : KindLaws E.joined E.stands_for E.low_of = record { starts = g.met.E.Enclosure.starts; sums = g.met.E.Enclosure.sums; low_at_most = g.met.E.Enclosure.low_at_most; keeps_near = g.met.E.Enclosure.keeps_near; low_at_least = g.met.E.Enclosure.low_at_least; joined_length = g.met.E.Enclosure.joined_length } in
    let rules : RuleLaws R.rule R.Member = record { alive = g.met.R.Rules.alive; full = g.met.R.Rules.full; legal = g.met.R.Rules.legal } in
    from_ok (IsPlanOf t s.nodes.items s.queue s.best s.turns) (λ p. IsTight (task_of R.rule (floored_census E.joined) E.low_of t) p.certificate.tree (λ q. peak_below t q t.level)) c.finish.result
    (λ p f. tight R.rule R.Member E.joined E.stands_for E.low_of rules kind t c.args.tables.now.good s.nodes.items s.queue s.best s.turns c.in_ok-search.ensures.search p f) c.finish.ensures
