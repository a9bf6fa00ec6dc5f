-- Movements: how many patients are admitted to a ward on a day, and how many are discharged.
use Rattle.std.specs.Prelude.{ℕ, ◌+◌, ◌*◌, ◌^◌, List, map, eqb, slice_index}
use Rattle.std.specs.List.{filter}
use Rattle.mss_model.specs.declared.parts.TableParts.{TableParts}
use Rattle.mss_model.specs.TableWords.{block_of}
use Rattle.mss_model.specs.Presence.{presence}
use Rattle.mss_model.specs.Thinning.{thinned_by}
use Rattle.mss_model.specs.BlockAtAge.{BlockView}
use Rattle.mss_model.specs.Distribution.{convolution_all}
use Rattle.mss_model.specs.Occurrences.{occurrences}
use Rattle.mss_model.specs.Census.{those_present}

-- The distribution of the admissions to a ward on a day: of its occurrences on the day of surgery.
abbrev pub admissions : TableParts → ℕ → ℕ → List ℕ → List ℕ
admissions tables ward day options =
    convolution_all (map (those_present tables) (filter (λ o. eqb o.age 0) (occurrences tables ward day options)))

-- The distribution of those of a block who are discharged at an age: each is still there then, and is discharged on
-- that day with the chance that the stays have at the age.
abbrev pub discharged_at_age : BlockView → ℕ → List ℕ
discharged_at_age b age = thinned_by (presence b.parts b.stays age * slice_index b.stays age) (b.parts ^ (age + 1)) b.patients

-- The distribution of the discharges from a ward on a day.
abbrev pub discharges : TableParts → ℕ → ℕ → List ℕ → List ℕ
discharges tables ward day options =
    convolution_all (map (λ o. discharged_at_age (block_of tables o.specialty) o.age) (occurrences tables ward day options))
