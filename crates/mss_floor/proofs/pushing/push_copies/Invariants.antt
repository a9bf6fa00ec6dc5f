use Rattle.std.proofs.Common.{◌≡◌, ℕ, ◌+◌, ◌-◌, ◌≤◌, List, ◌++◌, length, replicate}
use Rattle.mss_enclose.specs.Kept.{joined_all}
use Rattle.mss_enclose.specs.Words.{masses_list, scratch_room}
use Rattle.mss_floor.specs.FlooredLists.{fitting}
use Rattle.mss_floor.proofs.pushing.push_copies.Given as goal

abbrev pub invariant-loop-i : goal.invariant-loop-i
invariant-loop-i g l =
    let E = g.E.Enclosure in
    ((fs : List (List ℕ)) →
    joined_all E.joined (E.items l.fn.value) (fitting l.fn.left (length (E.items l.fn.value)) (replicate l.blocks (masses_list l.floor) ++ fs))
    ≡ joined_all E.joined (E.items l.value) (fitting l.left (length (E.items l.value)) (replicate (l.blocks - l._i) (masses_list l.floor) ++ fs)))
    × (E.size l.value ≡ 15361) × (scratch_room l.scratch ≡ 15361)
    × (l.count + l.left ≤ l.fn.count + l.fn.left) × (l.left ≤ l.fn.left - l._i)
