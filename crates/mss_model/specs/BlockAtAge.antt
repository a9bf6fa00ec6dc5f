-- A block of one specialty, and how many of its patients are there at an age.
use Rattle.std.specs.Prelude.{◌≡◌, ℕ, ◌+◌, ◌-◌, ◌^◌, ◌<◌, ◌≤◌, ◌≢◌, ◌==◌, ◌||◌, true, List, [], ◌∷◌, slice_index, length, sum}
use Rattle.std.specs.List.{All}
use Rattle.mss_model.specs.Presence.{presence}
use Rattle.mss_model.specs.Thinning.{thinned_by}
use Rattle.mss_model.specs.declared.one_block.TheConstants.{PARTS, FINE_PARTS, MOST_PATIENTS, MOST_AGES}

-- chances are whole numbers of parts of a million, or of a thousand million
pub record IsParts (parts : ℕ) : Type 0 where
  pub known : (parts == PARTS || parts == FINE_PARTS) ≡ true

-- The chances are whole numbers of `parts`. `patients` has the chance of 0, 1, 2 and so on patients, and `stays` the
-- chance of discharge at the ages 0, 1, 2 and so on days.
pub record BlockView : Type 0 where
  pub parts : ℕ
  pub patients : List ℕ
  pub stays : List ℕ

-- one of 0 to 16 patients come
pub record IsPatients (parts : ℕ) (patients : List ℕ) : Type 0 where
  pub some : 1 ≤ length patients
  pub few : length patients ≤ MOST_PATIENTS + 1
  pub whole : sum patients ≡ parts

-- the discharge is certain at the last of 1 to 60 ages, and at no earlier one
pub record IsStays (parts : ℕ) (stays : List ℕ) : Type 0 where
  pub some : 1 ≤ length stays
  pub few : length stays ≤ MOST_AGES
  pub within : All (λ chance. chance ≤ parts) stays
  pub last : slice_index stays (length stays - 1) ≡ parts
  pub earlier : (age : ℕ) → age + 1 < length stays → slice_index stays age ≢ parts

-- a block within the limits
pub record IsBlock (b : BlockView) : Type 0 where
  pub parts_good : IsParts b.parts
  pub patients_good : IsPatients b.parts b.patients
  pub stays_good : IsStays b.parts b.stays

-- what stands for the block of a specialty that isn't there: nobody comes
abbrev pub no_block : BlockView
no_block = record { parts = PARTS; patients = PARTS ∷ []; stays = PARTS ∷ [] }

-- The distribution of those of a block who are there at an age: each patient with the chance of presence, in one
-- jump from the day of surgery.
abbrev pub block_at_age : BlockView → ℕ → List ℕ
block_at_age b age = thinned_by (presence b.parts b.stays age) (b.parts ^ age) b.patients
