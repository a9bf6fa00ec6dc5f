use Rattle.std.proofs.Common.{◌≡◌, true, false, subst, sym, ◌∙◌, inl}
use Rattle.mss_desk.specs.Memory.{fails_next}
use Rattle.mss_desk.proofs.memory.MemoryDeskDesk.read.Goals as goal

pub returns-then-fails-clause-not_failing : goal.returns-then-fails-clause-not_failing
returns-then-fails-clause-not_failing c = λ _. inl (rw (← c.self.view_is, ← c.deref.ensures.value) (sym c.count-fails.ensures.fails ∙ c.if-fails.true))

pub returns-clause-failing : goal.returns-clause-failing
returns-clause-failing c = λ given. absurd (
    let both : false ≡ true = sym c.if-fails.false ∙ c.count-fails.ensures.fails ∙ rw c.deref.ensures.value (subst (λ m. fails_next m ≡ true) (sym c.self.view_is) given) in
    cc)
