-- The steady lists of the blocks of tables.
use Rattle.std.proofs.Common.{◌≡◌, ℕ, ◌-◌, ◌<◌, ◌≤◌, List, [], length, map, get_or, Some, sym, ap, ◌∙◌, arith}
use Rattle.std.specs.Prelude.{slice_get}
use Rattle.std.proofs.lemmas.List.{length-map, get_or-map}
use Rattle.std.proofs.lemmas.List.FromFn.{get_or-map-range_with_len}
use Rattle.std.proofs.lemmas.Option.{get_or_from_slice_get}
use Rattle.mss_model.specs.declared.parts.TableParts.{TableParts}
use Rattle.mss_model.specs.BlockAtAge.{BlockView, IsBlock, no_block, block_at_age}
use Rattle.mss_model.specs.TableWords.{block_of, specialty_count}
use Rattle.mss_model.specs.Limits.{Between, IsTables}
use Rattle.mss_model.proofs.OffsetAges.{age_count-within}
use Rattle.mss_enclose.specs.Kept.{StandsFor}
use Rattle.mss_thin.specs.BlockLists.{kept_at_age}
use Rattle.mss_thin.specs.SteadyLists.{offset_sum, steady_lists}
use Rattle.mss_thin.specs.BlockAgesLaws.{present-ages}
use Rattle.mss_thin.specs.OffsetListsLaws.{offset-stands, offset-long}
use Rattle.mss_floor.specs.FloorLists.{steady_list}

-- the exact sum of the ages of an offset
abbrev pub steady_sum : ℕ → BlockView → ℕ → List ℕ
steady_sum days b o = offset_sum (block_at_age b) days (length b.stays) o

pub steady-stands : (days o : ℕ) (b : BlockView) → IsBlock b → StandsFor (steady_list days b o) (steady_sum days b o)
steady-stands days o b h = offset-stands (kept_at_age b) (block_at_age b) days (length b.stays) o (present-ages b h)

-- a steady list has at most 961 numbers
pub steady-short : (days o : ℕ) (b : BlockView) → IsBlock b → length (steady_list days b o) ≤ 961
steady-short days o b h =
    omega (arith, offset-long (kept_at_age b) (block_at_age b) days (length b.stays) o (present-ages b h), age_count-within days o (length b.stays), h.stays_good.few)

-- the list at an offset
pub steady-at : (t : TableParts) (j o : ℕ) (lists : List (List ℕ)) (list : List ℕ) → lists ≡ steady_lists t.days (block_of t j) → o < t.days → Some list ≡ slice_get lists o
    → list ≡ steady_list t.days (block_of t j) o
steady-at t j o lists list same l found =
    sym (get_or_from_slice_get lists o list [] (sym found)) ∙ ap (λ ls. get_or ls o []) same
    ∙ get_or-map-range_with_len (steady_list t.days (block_of t j)) 0 t.days o o [] l (omega arith)

-- the lists that are kept of a specialty
pub lists-known : {T : Type 0} (t : TableParts) (shown : T → List (List ℕ)) (xs : List T) (x : T) (j place : ℕ) → IsTables t
    → map shown xs ≡ map (steady_lists t.days) t.blocks → Between 1 (specialty_count t) j → place ≡ j - 1 → x ≡ get_or xs place x
    → shown x ≡ steady_lists t.days (block_of t j)
lists-known t shown xs x j place h same known at is =
    let count : length xs ≡ length t.blocks = sym (length-map xs shown) ∙ ap length same ∙ length-map t.blocks (steady_lists t.days) in
    let inside : place < length t.blocks = omega (arith, h.specialties.blocks, known.0, known.1, at) in
    ap shown is ∙ sym (get_or-map shown xs place x [] (omega (arith, count, inside)))
    ∙ ap (λ ls. get_or ls place []) same ∙ get_or-map (steady_lists t.days) t.blocks place no_block [] inside
    ∙ ap (λ k. steady_lists t.days (get_or t.blocks k no_block)) at
