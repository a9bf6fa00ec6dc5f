-- The first fault of a text that isn't that of a certificate of weights.
use Rattle.std.specs.Prelude.{◌≡◌, ◌≢◌, ℕ, ◌+◌, ◌<◌, List, [], ◌∷◌, ◌++◌, length, get_or}
use Rattle.std.specs.List.{AllByRecursion}
use Rattle.mss_lines.specs.Fields.{fields, AreShort}
use Rattle.mss_weights.specs.declared.faults.WeightsKind.{WeightsKind}
use Rattle.mss_weights.specs.declared.faults.WeightsKind.TheVariants as kind
use Rattle.mss_weights.specs.declared.faults.WeightsRefusal.{WeightsRefusal}
use Rattle.mss_weights.specs.declared.faults.WeightsRefusal.TheVariants as refused
use Rattle.mss_weights.specs.WeightsText.{version_text, head_text, words, lists_text}

-- a line of a word and numbers stands at the front, and then these bytes
pub record IsList (word bytes numbers rest : List ℕ) : Type 0 where
  pub short : AreShort numbers
  pub parts : bytes ≡ word ++ (fields numbers ++ (10 ∷ rest))

abbrev pub IsWithoutList : List ℕ → List ℕ → Type 0
IsWithoutList word bytes = (numbers rest : List ℕ) → IsList word bytes numbers rest → ⊥

-- the first lists are there, and then the line of the next one isn't
pub record HasBadList (bytes : List ℕ) (at : ℕ) : Type 0 where
  pub lists : List (List ℕ)
  pub short : AllByRecursion AreShort lists
  pub few : length lists < 4
  pub left : List ℕ
  pub none : IsWithoutList (get_or words (length lists) []) left
  pub parts : bytes ≡ lists_text words lists ++ left
  pub numbered : at ≡ 3 + length lists

-- all lists are there, and a byte follows them
pub record GoesOn (bytes : List ℕ) (at : ℕ) : Type 0 where
  pub lists : List (List ℕ)
  pub short : AllByRecursion AreShort lists
  pub all : length lists ≡ 4
  pub byte : ℕ
  pub later : List ℕ
  pub parts : bytes ≡ lists_text words lists ++ (byte ∷ later)
  pub numbered : at ≡ 7

-- the first two lines are there, and then these bytes
pub record IsAfterHead (bytes rest : List ℕ) : Type 0 where
  pub number : ℕ
  pub power : ℕ
  pub reach : ℕ
  pub short : AreShort (number ∷ power ∷ reach ∷ [])
  pub parts : bytes ≡ version_text ++ (head_text number power reach ++ (10 ∷ rest))

-- the second line isn't there
pub record HasNoHead (bytes : List ℕ) : Type 0 where
  pub later : List ℕ
  pub parts : bytes ≡ version_text ++ later
  pub none : (number power reach : ℕ) (rest : List ℕ) → AreShort (number ∷ power ∷ reach ∷ [])
      → later ≢ head_text number power reach ++ (10 ∷ rest)

-- The first fault of a text: its kind, and the line at which it stands. A text that is too long isn't read.
abbrev pub IsFaultAt : List ℕ → WeightsKind → ℕ → Type 0
IsFaultAt bytes kind.TooLong at = ⊥
IsFaultAt bytes kind.Version at = ((later : List ℕ) → bytes ≢ version_text ++ later) × (at ≡ 1)
IsFaultAt bytes kind.Head at = HasNoHead bytes × (at ≡ 2)
IsFaultAt bytes kind.List at = (rest : List ℕ) × IsAfterHead bytes rest × HasBadList rest at
IsFaultAt bytes kind.After at = (rest : List ℕ) × IsAfterHead bytes rest × GoesOn rest at

-- a refusal tells the first fault; want of memory may come at any time
abbrev pub RefusesText : List ℕ → WeightsRefusal → Type 0
RefusesText bytes (refused.Fault told) = IsFaultAt bytes told.kind told.line
RefusesText bytes refused.NoMemory = Unit {0}
