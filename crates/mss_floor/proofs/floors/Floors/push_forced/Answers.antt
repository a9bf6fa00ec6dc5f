use Rattle.std.proofs.Common.{ℕ, ◌+◌, List, [], length, replicate, sym, ◌∙◌, arith}
use Rattle.std.specs.Prelude.{if◌then◌else◌}
use Rattle.mss_model.specs.Occurrences.{lies_on}
use Rattle.mss_model.specs.PartsOf.{parts_of}
use Rattle.mss_model.specs.TableWords.{specialty_count}
use Rattle.mss_floor.specs.FloorLists.{specialty_floor}
use Rattle.mss_floor.specs.FlooredLists.{floored_list}
use Rattle.mss_floor.specs.ForcedBlocks.{forced}
use Rattle.mss_floor.proofs.OneFloor.{one-specialty, last-floors}
use Rattle.mss_floor.proofs.floors.Floors.push_forced.Goals as goal

pub push_specialty-left-requires-clause-tables : goal.push_specialty-left-requires-clause-tables
push_specialty-left-requires-clause-tables g c = c.loop-j.invariant.1 ∙ c.requires.tables

pub loop-j-preserved : goal.loop-j-preserved
loop-j-preserved g c =
    let E = g.E.Enclosure in
    let t = parts_of c.args.tables.now in
    let F : ℕ → List ℕ = specialty_floor t c.args.prefix.now c.args.day in
    let blocks : ℕ → List ℕ = λ j. if lies_on t.ward_of c.args.ward j then replicate (forced t c.args.prefix.now j) j else [] in (
      one-specialty (floored_list E.joined t c.args.prefix.now c.args.ward c.args.day (E.items c.args.value.now)) E.joined F blocks
          (E.items c.loop-j.value) (E.items c.push_specialty-left.new.value) c.loop-j.left c.push_specialty-left.result (specialty_count t) c.loop-j.j
          (omega (arith, c.loop-j-test.true, c.specialties-j-end.ensures.value)) c.loop-j.invariant.0 c.push_specialty-left.ensures.pushed,
      c.push_specialty-left.ensures.same ∙ c.loop-j.invariant.1,
      c.push_specialty-left.ensures.room,
      c.push_specialty-left.ensures.scratch,
      omega (arith, c.loop-j.invariant.4, c.push_specialty-left.ensures.count),
    )

pub returns-clause-value : goal.returns-clause-value
returns-clause-value g c =
    let E = g.E.Enclosure in
    let t = parts_of c.args.tables.now in
    let F : ℕ → List ℕ = specialty_floor t c.args.prefix.now c.args.day in
    let blocks : ℕ → List ℕ = λ j. if lies_on t.ward_of c.args.ward j then replicate (forced t c.args.prefix.now j) j else [] in
    sym (c.loop-j.invariant.0 ∙ last-floors E.joined F blocks (E.items c.loop-j.value) c.loop-j.left (length (E.items c.loop-j.value)) (c.loop-j.j + 1) (specialty_count t) c.loop-j.j
    (omega (arith, c.loop-j-test.false, c.specialties-j-end.ensures.value)))
