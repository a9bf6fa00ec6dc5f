use Rattle.std.proofs.Common.{nat_eq, nat_lt, sym, ap₂, ◌∙◌}
use Rattle.std.specs.Option.{option_eq}
use Rattle.std.proofs.lemmas.Bool.{eq-eqb, ne_eqb, true≢false}
use Rattle.mss_model.specs.Legality.{option_at}
use Rattle.mss_model.specs.PartsOf.{parts_of}
use Rattle.mss_alike.proofs.SuitNumbers.{falling_by_list}
use Rattle.mss_alike.proofs.order.is_falling.Goals.{then-minutes, else-minutes, then-prefix-later, else-prefix-later}
use Rattle.mss_alike.proofs.order.is_falling.Goals as goal

pub returns-then-numbers-earlier : goal.returns-then-numbers-earlier
returns-then-numbers-earlier c =
    let parts = falling_by_list (parts_of c.args.tables.now) c.args.numbers.now c.args.earlier c.args.later c.args.room
    (nat_lt (option_at c.args.prefix.now c.args.later) (option_at c.args.prefix.now c.args.earlier)) c.requires.numbers
    c.requires.order c.requires.day c.requires.room c.requires.within in
    elim c.if-prefix-later.branch [
      | then-prefix-later w ↦ elim c.if-minutes.branch [
        | then-minutes v ↦
            rw (
              parts,
              eq-eqb _ _ (sym c.minutes.ensures.value ∙ v.if-minutes.true ∙ c.minutes-2.ensures.value),
              sym v.value-is ∙ w.if-prefix-later.true,
              sym w.value-is ∙ c.if-numbers-earlier.true,
            ) (c.eq.ensures ∙ ap₂ (option_eq nat_eq) c.fixed.ensures.value c.fixed-then-numbers-earlier.ensures.value)
        | else-minutes v ↦ absurd (true≢false (sym w.if-prefix-later.true ∙ v.value-is ∙ ne_eqb _ _ v.if-minutes.false))
      ]
      | else-prefix-later w ↦ absurd (true≢false (sym c.if-numbers-earlier.true ∙ w.value-is ∙ w.if-prefix-later.false))
    ]

pub returns-else-numbers-earlier : goal.returns-else-numbers-earlier
returns-else-numbers-earlier c =
    let parts = falling_by_list (parts_of c.args.tables.now) c.args.numbers.now c.args.earlier c.args.later c.args.room
    (nat_lt (option_at c.args.prefix.now c.args.later) (option_at c.args.prefix.now c.args.earlier)) c.requires.numbers
    c.requires.order c.requires.day c.requires.room c.requires.within in
    elim c.if-prefix-later.branch [
      | then-prefix-later w ↦ elim c.if-minutes.branch [
        | then-minutes v ↦
            rw (
              parts,
              eq-eqb _ _ (sym c.minutes.ensures.value ∙ v.if-minutes.true ∙ c.minutes-2.ensures.value),
              sym v.value-is ∙ w.if-prefix-later.true,
              sym w.value-is ∙ c.if-numbers-earlier.false,
            ) c.if-numbers-earlier.false
        | else-minutes v ↦ absurd (true≢false (sym w.if-prefix-later.true ∙ v.value-is ∙ ne_eqb _ _ v.if-minutes.false))
      ]
      | else-prefix-later w ↦ elim c.if-minutes.branch [
        | then-minutes v ↦
            rw (
              parts,
              eq-eqb _ _ (sym c.minutes.ensures.value ∙ v.if-minutes.true ∙ c.minutes-2.ensures.value),
              sym v.value-is ∙ w.if-prefix-later.false,
            ) c.if-numbers-earlier.false
        | else-minutes v ↦
            rw (parts, ne_eqb _ _ (λ e. v.if-minutes.false (c.minutes.ensures.value ∙ e ∙ sym c.minutes-2.ensures.value)))
            c.if-numbers-earlier.false
      ]
    ]
