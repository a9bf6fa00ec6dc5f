-- The patients of one block who are there so many days after its day, where the cycle repeats without end.
use Rattle.std.specs.Prelude.{ℕ, List, length}
use Rattle.mss_model.specs.BlockAtAge.{BlockView, block_at_age}
use Rattle.mss_thin.specs.BlockLists.{kept_at_age}
use Rattle.mss_thin.specs.SteadyLists.{offset_list, offset_sum}

-- their exact distribution
abbrev pub steady_sum : ℕ → BlockView → ℕ → List ℕ
steady_sum days b o = offset_sum (block_at_age b) days (length b.stays) o

-- the kept list that stands for it
abbrev pub steady_list : ℕ → BlockView → ℕ → List ℕ
steady_list days b o = offset_list (kept_at_age b) days (length b.stays) o
