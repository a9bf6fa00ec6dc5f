use Rattle.std.proofs.Common.{◌<◌, ℕ, List, [], ◌∷◌, length, codes, refl, arith}
use Rattle.std.proofs.lemmas.Bool.Decides.{nat_tests}
use Rattle.std.proofs.lemmas.Result.{err_from_is_err_and}
use Rattle.mss_weights.specs.WeightsFaults.{IsList}
use Rattle.mss_weights.proofs.ListsTaken.{IsTaken, none_taken, one_taken, refused_list, goes_on}
use Rattle.mss_weights.proofs.reading.read_lists.Goals as goal

one : (bytes p a : List ℕ) → IsList (codes "places") bytes p a → IsTaken bytes (p ∷ []) a
one bytes p a h = one_taken bytes bytes a (codes "places") p [] (none_taken bytes) (omega arith) refl h

two : (bytes p a b c : List ℕ) → IsTaken bytes (p ∷ []) a → IsList (codes "blocks") a b c → IsTaken bytes (p ∷ b ∷ []) c
two bytes p a b c so_far h = one_taken bytes a c (codes "blocks") b (p ∷ []) so_far (omega arith) refl h

three : (bytes p b a s c : List ℕ) → IsTaken bytes (p ∷ b ∷ []) a → IsList (codes "slots") a s c → IsTaken bytes (p ∷ b ∷ s ∷ []) c
three bytes p b a s c so_far h = one_taken bytes a c (codes "slots") s (p ∷ b ∷ []) so_far (omega arith) refl h

four : (bytes p b s a k c : List ℕ) → IsTaken bytes (p ∷ b ∷ s ∷ []) a → IsList (codes "kinds") a k c → IsTaken bytes (p ∷ b ∷ s ∷ k ∷ []) c
four bytes p b s a k c so_far h = one_taken bytes a c (codes "kinds") k (p ∷ b ∷ s ∷ []) so_far (omega arith) refl h

pub returns-in_err-blocks-clause-fault : goal.returns-in_err-blocks-clause-fault
returns-in_err-blocks-clause-fault c =
    let bytes = c.args.bytes.now in
    let a = one bytes c.in_ok-places.places c.in_ok-places.rest.now c.in_ok-places.ensures.found in
    let p = err_from_is_err_and c.from_residual-in_err-blocks.result c.from_residual-in_err-blocks.ensures.1 in
    rw (p.1, p.2)
    (refused_list bytes c.in_ok-places.rest.now (codes "blocks") (c.in_ok-places.places ∷ []) 4 c.in_err-blocks.field-0.0 a (omega arith) refl refl c.in_err-blocks.ensures.fault)

pub returns-in_err-slots-clause-fault : goal.returns-in_err-slots-clause-fault
returns-in_err-slots-clause-fault c =
    let bytes = c.args.bytes.now in
    let a = one bytes c.in_ok-places.places c.in_ok-places.rest.now c.in_ok-places.ensures.found in
    let b = two bytes c.in_ok-places.places c.in_ok-places.rest.now c.in_ok-blocks.blocks c.in_ok-blocks.rest.now a c.in_ok-blocks.ensures.found in
    let p = err_from_is_err_and c.from_residual-in_err-slots.result c.from_residual-in_err-slots.ensures.1 in
    rw (p.1, p.2)
    (refused_list bytes c.in_ok-blocks.rest.now (codes "slots") (c.in_ok-places.places ∷ c.in_ok-blocks.blocks ∷ []) 5 c.in_err-slots.field-0.0 b (omega arith) refl refl c.in_err-slots.ensures.fault)

pub returns-in_err-kinds-clause-fault : goal.returns-in_err-kinds-clause-fault
returns-in_err-kinds-clause-fault c =
    let bytes = c.args.bytes.now in
    let a = one bytes c.in_ok-places.places c.in_ok-places.rest.now c.in_ok-places.ensures.found in
    let b = two bytes c.in_ok-places.places c.in_ok-places.rest.now c.in_ok-blocks.blocks c.in_ok-blocks.rest.now a c.in_ok-blocks.ensures.found in
    let s = three bytes c.in_ok-places.places c.in_ok-blocks.blocks c.in_ok-blocks.rest.now c.in_ok-slots.slots c.in_ok-slots.rest.now b c.in_ok-slots.ensures.found in
    let p = err_from_is_err_and c.from_residual-in_err-kinds.result c.from_residual-in_err-kinds.ensures.1 in
    rw (p.1, p.2)
    (refused_list bytes c.in_ok-slots.rest.now (codes "kinds") (c.in_ok-places.places ∷ c.in_ok-blocks.blocks ∷ c.in_ok-slots.slots ∷ []) 6 c.in_err-kinds.field-0.0 s (omega arith) refl refl c.in_err-kinds.ensures.fault)

pub returns-else-is_empty-clause-fault : goal.returns-else-is_empty-clause-fault
returns-else-is_empty-clause-fault c =
    let bytes = c.args.bytes.now in
    let a = one bytes c.in_ok-places.places c.in_ok-places.rest.now c.in_ok-places.ensures.found in
    let b = two bytes c.in_ok-places.places c.in_ok-places.rest.now c.in_ok-blocks.blocks c.in_ok-blocks.rest.now a c.in_ok-blocks.ensures.found in
    let s = three bytes c.in_ok-places.places c.in_ok-blocks.blocks c.in_ok-blocks.rest.now c.in_ok-slots.slots c.in_ok-slots.rest.now b c.in_ok-slots.ensures.found in
    let k = four bytes c.in_ok-places.places c.in_ok-blocks.blocks c.in_ok-slots.slots c.in_ok-slots.rest.now c.in_ok-kinds.kinds c.in_ok-kinds.rest.now s c.in_ok-kinds.ensures.found in
    let some : 0 < length c.in_ok-kinds.rest.now = grind (arith, nat_tests) in
    rw c.fault.ensures
    (goes_on bytes c.in_ok-kinds.rest.now (c.in_ok-places.places ∷ c.in_ok-blocks.blocks ∷ c.in_ok-slots.slots ∷ c.in_ok-kinds.kinds ∷ []) k refl some)
