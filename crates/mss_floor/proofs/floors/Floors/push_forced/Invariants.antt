use Rattle.std.proofs.Common.{◌≡◌, ◌+◌, ◌-◌, ◌≤◌, [], length, map, replicate}
use Rattle.std.specs.Prelude.{if◌then◌else◌}
use Rattle.std.specs.List.{flat_map, range_with_len}
use Rattle.mss_model.specs.Occurrences.{lies_on}
use Rattle.mss_model.specs.PartsOf.{parts_of}
use Rattle.mss_model.specs.TableWords.{slot_count, specialty_count}
use Rattle.mss_enclose.specs.Kept.{joined_all}
use Rattle.mss_enclose.specs.Words.{scratch_room}
use Rattle.mss_floor.specs.FloorLists.{specialty_floor}
use Rattle.mss_floor.specs.FlooredLists.{fitting, floored_list}
use Rattle.mss_floor.specs.ForcedBlocks.{forced}
use Rattle.mss_floor.proofs.floors.Floors.push_forced.Given as goal

abbrev pub invariant-loop-j : goal.invariant-loop-j
invariant-loop-j g l =
    let E = g.E.Enclosure in let t = parts_of l.tables in
    (floored_list E.joined t l.prefix l.ward l.day (E.items l.fn.value)
    ≡ joined_all E.joined (E.items l.value) (fitting l.left (length (E.items l.value))
    (map (specialty_floor t l.prefix l.day) (flat_map (λ j. if lies_on t.ward_of l.ward j then replicate (forced t l.prefix j) j else []) (range_with_len (l.j + 1) (specialty_count t - l.j))))))
    × (l.self ≡ l.fn.self) × (E.size l.value ≡ 15361) × (scratch_room l.scratch ≡ 15361)
    × (l.count + l.left ≤ l.fn.count + (slot_count t - length l.prefix))
