-- The census of a prefix, where only the options that lie on the ward were pushed.
use Rattle.std.proofs.Common.{◌≡◌, ℕ, ◌-◌, ◌≤◌, false, List, [], ◌∷◌, ◌++◌, length, replicate, refl, sym, ap, ◌∙◌, arith, append-nil}
use Rattle.mss_model.specs.Occurrences.{lies_on}
use Rattle.mss_enclose.specs.Kept.{joined_all}
use Rattle.mss_census.specs.WardLists.{WardLists, slot_parts, census_list}
use Rattle.mss_census.specs.SlotPushesLaws.{census-more}

module _ (j : List ℕ → List ℕ → List ℕ) (ls : WardLists) (w t slot option : ℕ) where
  census-next : (prefix : List ℕ) → length prefix ≡ slot → census_list j ls w t (prefix ++ option ∷ []) ≡ joined_all j (census_list j ls w t prefix) (slot_parts ls w t slot option)
  census-next prefix long =
      ap (λ xs. census_list j ls w t (xs ++ option ∷ [])) (sym (append-nil prefix)) ∙ census-more j ls w t slot option prefix 0 (omega (arith, long))

  -- a slot whose option was pushed
  pub prefix-pushed : (pushed prefix : List ℕ) → length pushed ≤ slot → length prefix ≡ slot → census_list j ls w t pushed ≡ census_list j ls w t prefix
      → census_list j ls w t (pushed ++ replicate (slot - length pushed) 0 ++ option ∷ []) ≡ census_list j ls w t (prefix ++ option ∷ [])
  prefix-pushed pushed prefix reached long same =
      census-more j ls w t slot option pushed (slot - length pushed) (omega (arith, reached))
      ∙ ap (λ a. joined_all j a (slot_parts ls w t slot option)) same ∙ sym (census-next prefix long)

  -- a slot whose option lies on another ward
  pub prefix-passed : (prefix : List ℕ) → length prefix ≡ slot → lies_on ls.ward_of w option ≡ false
      → census_list j ls w t (prefix ++ option ∷ []) ≡ census_list j ls w t prefix
  prefix-passed prefix long off =
      let none : slot_parts ls w t slot option ≡ [] = rw off refl in
      census-next prefix long ∙ ap (joined_all j (census_list j ls w t prefix)) none
