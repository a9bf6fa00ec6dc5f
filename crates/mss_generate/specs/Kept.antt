-- What `generate` leaves on a desk, in the words of the exact model.
use Rattle.std.specs.Prelude.{◌≡◌, ◌≢◌, ℕ, ◌≤◌, false, List, ◌++◌, Some}
use Rattle.std.specs.List.{AllByRecursion}
use Rattle.std.specs.FinMap.{get}
use Rattle.mss_model.specs.Files.{table_names}
use Rattle.mss_desk.specs.Desk.{Content}
use Rattle.mss_command.specs.Tables.{StoresTables}
use Rattle.mss_report.specs.declared.plan.PlanSummary.{PlanSummary}
use Rattle.mss_gen.specs.Generated.{generated}
use Rattle.mss_gen.specs.declared.size.Size.{Size}
use Rattle.mss_model.specs.Legality.{IsLegal}
use Rattle.mss_model.specs.Peak.{peak_at}
use Rattle.mss_model.specs.declared.parts.TableParts.{TableParts}
use Rattle.mss_plan.specs.Plan.{IsBelowAll, IsLeastOfAll}
use Rattle.mss_generate.specs.Summary.{generate_text}

-- What the numbers of a plan say: some legal cycle peaks at most at the upper number; each legal cycle peaks at least at the
-- lower number, and where the search closed, at least at the upper number at a level 2^-30 higher; without a number no cycle
-- is legal.
pub record AreNumbersOf (tables : TableParts) (s : PlanSummary) : Type 0 where
  pub upper : (n : ℕ) → s.upper ≡ Some n → (cycle : List ℕ) × IsLegal tables cycle × (peak_at tables cycle tables.level ≤ n)
  pub lower : IsBelowAll tables s.lower
  pub closed : s.spent ≡ false → IsLeastOfAll tables s.upper

-- The ten files are stored, each within its limit, and mean tables; they are those that are drawn from the number, and each
-- other file is as before. What was said ends in the summary, whose numbers hold of the tables.
pub record Kept (number : ℕ) (size : Size) (c d : Content) : Type 0 where
  pub tables : TableParts
  pub stored : StoresTables d.files tables
  pub drawn : stored.bytes ≡ generated number size
  pub others : (name : List ℕ) → AllByRecursion (λ other. name ≢ other) table_names → get d.files name ≡ get c.files name
  pub summary : PlanSummary
  pub said : d.said ≡ c.said ++ generate_text number size tables summary
  pub numbers : AreNumbersOf tables summary
