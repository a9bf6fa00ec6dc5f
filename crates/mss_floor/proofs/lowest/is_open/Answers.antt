use Rattle.std.proofs.Common.{◌≡◌, ◌+◌, ◌*◌, ◌<◌, ◌&&◌, true, false, nat_le, sym, ap₂, subst, ◌∙◌, arith}
use Rattle.mss_model.specs.Legality.{could_take}
use Rattle.mss_model.specs.PartsOf.{parts_of}
use Rattle.mss_model.specs.TableWords.{room_count, slot_count}
use Rattle.mss_floor.proofs.OpenDays.{slot-inside, open-found, none-open}
use Rattle.mss_floor.proofs.lowest.is_open.Goals as goal

pub is_open_slot-requires-clause-slot : goal.is_open_slot-requires-clause-slot
is_open_slot-requires-clause-slot c =
    let t = parts_of c.args.tables.now in
    let rooms : c.from-rooms.result ≡ room_count t = c.from-rooms.ensures ∙ c.rooms.ensures.value in
    let first : c.from.result * c.from-rooms.result ≡ c.args.day * room_count t = ap₂ (λ a b. a * b) c.from.ensures rooms in
    let inside : c.args.day * room_count t + c.loop-room.room < slot_count t =
    slot-inside t.days (room_count t) c.args.day c.loop-room.room c.requires.day (omega (arith, c.loop-room-test.true, rooms)) in
    omega (arith, first, inside)

pub returns-then-is_open_slot : goal.returns-then-is_open_slot
returns-then-is_open_slot c =
    let t = parts_of c.args.tables.now in
    let rooms : c.from-rooms.result ≡ room_count t = c.from-rooms.ensures ∙ c.rooms.ensures.value in
    let first : c.from.result * c.from-rooms.result ≡ c.args.day * room_count t = ap₂ (λ a b. a * b) c.from.ensures rooms in
    open-found t c.args.from c.args.j c.args.day c.loop-room.room (omega (arith, c.loop-room-test.true, rooms)) c.requires.day
    (subst (λ f. (nat_le c.args.from (f + c.loop-room.room) && could_take t (f + c.loop-room.room) c.args.j) ≡ true) first (sym c.is_open_slot.ensures ∙ c.if-is_open_slot.true))

pub returns : goal.returns
returns c =
    let t = parts_of c.args.tables.now in
    let rooms : c.from-rooms.result ≡ room_count t = c.from-rooms.ensures ∙ c.rooms.ensures.value in
    let first : c.from.result * c.from-rooms.result ≡ c.args.day * room_count t = ap₂ (λ a b. a * b) c.from.ensures rooms in
    none-open t c.args.from c.args.j c.args.day c.args.tables.now.good
    (λ k l. subst (λ f. (nat_le c.args.from (f + k) && could_take t (f + k) c.args.j) ≡ false) first (c.loop-room.invariant k (omega (arith, l, c.loop-room-test.false, rooms))))
