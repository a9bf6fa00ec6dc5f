use Rattle.std.proofs.Common.{◌≡◌, ◌+◌, ◌-◌, ◌≤◌, ℕ, List, [], ◌∷◌, ◌++◌, length, take, replicate, false, slice_index_or, sym, ap, ◌∙◌, arith}
use Rattle.std.proofs.lemmas.List.{length-append, length-replicate, length-take-le, take_more}
use Rattle.mss_model.specs.Occurrences.{lies_on}
use Rattle.mss_census.specs.WardLists.{census_list}
use Rattle.mss_census.proofs.PrefixPushes.{prefix-pushed, prefix-passed}
use Rattle.mss_census.proofs.ward_census.Census.set_prefix.Goals.{then-lies_on, else-lies_on}
use Rattle.mss_census.proofs.ward_census.Census.set_prefix.Goals as goal

pub loop-slot-preserved : goal.loop-slot-preserved
loop-slot-preserved g c =
    let E = g.E.Enclosure in
    let i = c.loop-slot.invariant in
    let slot : ℕ = c.loop-slot.slot in
    let option : ℕ = slice_index_or c.args.prefix.now c.loop-slot.slot 0 in
    let pushed : List ℕ = c.loop-slot.self.options in
    let prefix : List ℕ = take c.loop-slot.slot c.args.prefix.now in
    let list : List ℕ → List ℕ = census_list E.joined c.loop-slot.self.lists c.args.ward c.args.day in
    let long : length (take c.loop-slot.slot c.args.prefix.now) ≡ c.loop-slot.slot = length-take-le c.loop-slot.slot c.args.prefix.now (omega (arith, c.loop-slot-test.true)) in
    let more : take (c.loop-slot.slot + 1) c.args.prefix.now ≡ prefix ++ option ∷ [] = take_more c.args.prefix.now c.loop-slot.slot 0 c.loop-slot-test.true in
    elim c.if-lies_on.branch [
      | then-lies_on w ↦
          let is : c.if-lies_on.self ≡ record { lists = c.loop-slot.self.lists; ward = c.loop-slot.self.ward; day = c.loop-slot.self.day; options = pushed ++ replicate (slot - length pushed) 0 ++ option ∷ [] } =
          w.self-is ∙ w.push_slot.ensures in
          let reached : length (pushed ++ replicate (slot - length pushed) 0 ++ option ∷ []) ≤ c.loop-slot.slot + 1 =
          omega (arith, i.3, length-append (pushed ++ replicate (slot - length pushed) 0) (option ∷ []), length-append pushed (replicate (slot - length pushed) 0), length-replicate {A = ℕ} (slot - length pushed) 0) in
          rw is (i.0, i.1, i.2, reached, prefix-pushed E.joined c.loop-slot.self.lists c.args.ward c.args.day slot option pushed prefix i.3 long i.4 ∙ ap list (sym more))
      | else-lies_on w ↦
          let wards = ap (λ ls. ls.ward_of) (i.0 ∙ c.requires.tables) in
          let off : lies_on c.loop-slot.self.lists.ward_of c.args.ward option ≡ false = ap (λ ws. lies_on ws c.args.ward option) wards ∙ sym c.lies_on.ensures ∙ w.if-lies_on.false in
          rw w.self-is (i.0, i.1, i.2, omega (arith, i.3), i.4 ∙ sym (prefix-passed E.joined c.loop-slot.self.lists c.args.ward c.args.day slot option prefix long off) ∙ ap list (sym more))
    ]
