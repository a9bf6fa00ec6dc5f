-- The lines of the lists, as they are read.
use Rattle.std.specs.Prelude.{◌≡◌, ℕ, List, [], ◌∷◌}
use Rattle.mss_lines.specs.Fields.{AreShort}
use Rattle.mss_weights.specs.declared.reading.Lists.{Lists}
use Rattle.mss_weights.specs.declared.faults.WeightsKind.{WeightsKind}
use Rattle.mss_weights.specs.declared.faults.WeightsKind.TheVariants as kind
use Rattle.mss_weights.specs.declared.faults.WeightsRefusal.{WeightsRefusal}
use Rattle.mss_weights.specs.declared.faults.WeightsRefusal.TheVariants as refused
use Rattle.mss_weights.specs.WeightsText.{words, lists_text}
use Rattle.mss_weights.specs.WeightsFaults.{IsWithoutList, HasBadList, GoesOn}

-- a refusal tells that the line of a word isn't there
abbrev pub RefusesList : List ℕ → List ℕ → ℕ → WeightsRefusal → Type 0
RefusesList word bytes line (refused.Fault told) = IsWithoutList word bytes × (told.kind ≡ kind.List) × (told.line ≡ line)
RefusesList word bytes line refused.NoMemory = Unit {0}

-- a refusal tells the first fault of the lines from the third on
abbrev pub IsListsFault : List ℕ → WeightsKind → ℕ → Type 0
IsListsFault bytes kind.TooLong at = ⊥
IsListsFault bytes kind.Version at = ⊥
IsListsFault bytes kind.Head at = ⊥
IsListsFault bytes kind.List at = HasBadList bytes at
IsListsFault bytes kind.After at = GoesOn bytes at

abbrev pub RefusesLists : List ℕ → WeightsRefusal → Type 0
RefusesLists bytes (refused.Fault told) = IsListsFault bytes told.kind told.line
RefusesLists bytes refused.NoMemory = Unit {0}

-- the lines from the third on are these lists
pub record IsLists (bytes : List ℕ) (lists : Lists) : Type 0 where
  pub places : AreShort lists.places
  pub blocks : AreShort lists.blocks
  pub slots : AreShort lists.slots
  pub kinds : AreShort lists.kinds
  pub parts : bytes ≡ lists_text words (lists.places ∷ lists.blocks ∷ lists.slots ∷ lists.kinds ∷ [])
