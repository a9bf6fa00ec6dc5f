-- The slots of one ward, and the census that they come to.
use Rattle.std.proofs.Common.{◌≡◌, ℕ, ◌+◌, ◌-◌, ◌<◌, ◌≤◌, false, List, [], ◌∷◌, ◌++◌, length, get_or, take, replicate, refl, sym, ap, ◌∙◌, arith, append_assoc, append-nil}
use Rattle.std.specs.Prelude.{slice_index}
use Rattle.std.specs.List.{All, AllPairs}
use Rattle.std.proofs.lemmas.List.{take_more, length-take-le}
use Rattle.std.proofs.lemmas.List.Elements.{All-push}
use Rattle.std.proofs.lemmas.List.Quantifiers.{all_pairs_push}
use Rattle.mss_model.specs.Occurrences.{lies_on}
use Rattle.mss_enclose.specs.Unit.{unit}
use Rattle.mss_enclose.specs.Kept.{joined_all}
use Rattle.mss_enclose.specs.ManyPushesLaws.{joined-more}
use Rattle.mss_census.specs.WardLists.{WardLists, slot_parts, parts_from, census_list}
use Rattle.mss_census.specs.SlotPushesLaws.{parts-append, census-more}
use Rattle.mss_local.specs.OwnSlots.{parts_at}

-- what is known of a ward's slots among the first slots of a cycle
pub record AreOwnSoFar (ls : WardLists) (w : ℕ) (options : List ℕ) (reached : ℕ) (slots : List ℕ) : Type 0 where
  pub rising : AllPairs (λ a b. a < b) slots
  pub inside : All (λ slot. slot < reached) slots
  pub all_parts : (day : ℕ) → parts_at ls w day options slots ≡ parts_from ls w day 0 (take reached options)

module _ (ls : WardLists) (w t : ℕ) (options : List ℕ) where
  abbrev here : ℕ → List (List ℕ)
  here slot = slot_parts ls w t slot (slice_index options slot)

  parts_at-more : (slots : List ℕ) (slot : ℕ) → parts_at ls w t options (slots ++ slot ∷ []) ≡ parts_at ls w t options slots ++ here slot
  parts_at-more [] slot = append-nil (here slot)
  parts_at-more (s ∷ slots) slot = ap (λ r. here s ++ r) (parts_at-more slots slot) ∙ sym (append_assoc (here s) (parts_at ls w t options slots) (here slot))

  parts_from-more : (slot : ℕ) → slot < length options → parts_from ls w t 0 (take (slot + 1) options) ≡ parts_from ls w t 0 (take slot options) ++ here slot
  parts_from-more slot l =
      let long : 0 + length (take slot options) ≡ slot = omega (arith, length-take-le slot options (omega (arith, l))) in
      ap (parts_from ls w t 0) (take_more options slot 0 l)
      ∙ parts-append ls w t 0 (take slot options) (get_or options slot 0 ∷ [])
      ∙ ap (λ r. parts_from ls w t 0 (take slot options) ++ r)
      (append-nil (slot_parts ls w t (0 + length (take slot options)) (get_or options slot 0)) ∙ ap (λ s. slot_parts ls w t s (get_or options slot 0)) long)

  -- one more slot of the ward
  found : (slots : List ℕ) (slot : ℕ) → slot < length options → parts_at ls w t options slots ≡ parts_from ls w t 0 (take slot options)
      → parts_at ls w t options (slots ++ slot ∷ []) ≡ parts_from ls w t 0 (take (slot + 1) options)
  found slots slot l same = parts_at-more slots slot ∙ ap (λ ps. ps ++ here slot) same ∙ sym (parts_from-more slot l)

  -- a slot of another ward
  passed : (slots : List ℕ) (slot : ℕ) → slot < length options → lies_on ls.ward_of w (slice_index options slot) ≡ false
      → parts_at ls w t options slots ≡ parts_from ls w t 0 (take slot options) → parts_at ls w t options slots ≡ parts_from ls w t 0 (take (slot + 1) options)
  passed slots slot l off same =
      let none : here slot ≡ [] = rw off refl in
      same ∙ sym (parts_from-more slot l ∙ ap (λ ps. parts_from ls w t 0 (take slot options) ++ ps) none ∙ append-nil (parts_from ls w t 0 (take slot options)))

  -- the census after a push of one more slot
  pub pushed : (j : List ℕ → List ℕ → List ℕ) (before slots : List ℕ) (slot : ℕ) → length before ≤ slot
      → census_list j ls w t before ≡ joined_all j (unit ∷ []) (parts_at ls w t options slots)
      → census_list j ls w t (before ++ replicate (slot - length before) 0 ++ slice_index options slot ∷ []) ≡ joined_all j (unit ∷ []) (parts_at ls w t options (slots ++ slot ∷ []))
  pushed j before slots slot reached same =
      census-more j ls w t slot (slice_index options slot) before (slot - length before) (omega (arith, reached))
      ∙ ap (λ a. joined_all j a (here slot)) same
      ∙ sym (ap (joined_all j (unit ∷ [])) (parts_at-more slots slot) ∙ joined-more j (unit ∷ []) (parts_at ls w t options slots) (here slot))

module _ (ls : WardLists) (w : ℕ) (options : List ℕ) (slot : ℕ) (slots : List ℕ) (within : slot < length options) (before : AreOwnSoFar ls w options slot slots) where
  wider : All (λ s. s < slot + 1) slots
  wider k d l = omega (arith, before.inside k d l)

  pub so_far-found : AreOwnSoFar ls w options (slot + 1) (slots ++ slot ∷ [])
  so_far-found = record {
    rising = all_pairs_push (λ a b. a < b) slots slot before.rising before.inside;
    inside = All-push (λ s. s < slot + 1) slots slot wider (omega arith);
    all_parts = λ day. found ls w day options slots slot within (before.all_parts day);
  }

  pub so_far-passed : lies_on ls.ward_of w (slice_index options slot) ≡ false → AreOwnSoFar ls w options (slot + 1) slots
  so_far-passed off = record {
    rising = before.rising;
    inside = wider;
    all_parts = λ day. passed ls w day options slots slot within off (before.all_parts day);
  }
