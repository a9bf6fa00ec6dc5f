-- The census: how many patients lie on a ward on a day.
use Rattle.std.specs.Prelude.{ℕ, List, map}
use Rattle.mss_model.specs.declared.parts.TableParts.{TableParts}
use Rattle.mss_model.specs.TableWords.{block_of}
use Rattle.mss_model.specs.BlockAtAge.{block_at_age}
use Rattle.mss_model.specs.Distribution.{convolution_all}
use Rattle.mss_model.specs.Occurrences.{Occurrence, occurrences}

-- the distribution of those of an occurrence who are there
abbrev pub those_present : TableParts → Occurrence → List ℕ
those_present tables o = block_at_age (block_of tables o.specialty) o.age

-- The distribution of the census of a ward on a day, in the cycle that repeats these options without end. Patients,
-- blocks and cycles are apart from each other, so it is the sum over all occurrences.
abbrev pub census : TableParts → ℕ → ℕ → List ℕ → List ℕ
census tables ward day options = convolution_all (map (those_present tables) (occurrences tables ward day options))
