use Rattle.std.proofs.Common.{◌≡◌, ℕ, ◌-◌, ◌≤◌, List, length, sym, ap₂, subst, ◌∙◌, arith}
use Rattle.mss_model.specs.Legality.{given_minutes}
use Rattle.mss_model.specs.PartsOf.{parts_of}
use Rattle.mss_model.specs.TableWords.{low_at}
use Rattle.mss_floor.specs.ForcedBlocks.{blocks_for, blocks_from, forced}
use Rattle.mss_floor.specs.NeededBlocksLaws.{forced_given}
use Rattle.mss_floor.proofs.forcing.forced.Goals as goal

-- each legal cycle has so many further blocks
pub returns-clause-given : goal.returns-clause-given
returns-clause-given c = λ rest legal.
    let t = parts_of c.args.tables.now in
    let p : List ℕ = c.args.prefix.now in
    let less : c.saturating_sub-missing.result ≡ low_at t c.args.j - given_minutes t p c.args.j = omega (arith, c.saturating_sub-missing.ensures, c.low.ensures.value, c.got.ensures) in
    let value : c.blocks_for.result ≡ forced t p c.args.j = c.blocks_for.ensures ∙ ap₂ blocks_for less c.longest.ensures in
    subst (λ n. n ≤ blocks_from t c.args.j (length p) rest) (sym value)
    (forced_given t p rest c.args.j legal c.requires.specialty.0 c.requires.specialty.1)
