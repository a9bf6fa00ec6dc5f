-- What the command `generate` comes to.
use Rattle.std.specs.Prelude.{◌≡◌, ℕ, Bool, true, false, List, Ok}
use Rattle.mss_model.specs.Legality.{broken_rule}
use Rattle.mss_model.specs.declared.parts.TableParts.{TableParts}
use Rattle.mss_tables.specs.TablesMeaning.{AreWithin, tables_at}
use Rattle.mss_command.specs.declared.status.Status.{Status}
use Rattle.mss_command.specs.declared.status.Status.TheVariants as statuses
use Rattle.mss_command.specs.Outcome.{Outcome}
use Rattle.mss_search.specs.declared.planner.Planned.{Planned}
use Rattle.mss_plan.specs.Plan.{IsPlan, summary_of}
use Rattle.mss_gen.specs.Generated.{generated}
use Rattle.mss_gen.specs.declared.size.Size.{Size}
use Rattle.mss_generate.specs.Puts.{table_puts}
use Rattle.mss_generate.specs.Summary.{generate_text}

-- the text has the numbers of a plan of the tables that these files mean, each of which is within its limit of size
pub record SaysPlan (number : ℕ) (size : Size) (files : List (List ℕ)) (text : List ℕ) : Type 0 where
  pub within : AreWithin files
  pub tables : TableParts
  pub means : tables_at files ≡ Ok tables
  pub plan : Planned
  pub is : IsPlan broken_rule tables plan
  pub exact : text ≡ generate_text number size tables (summary_of plan)

-- the generated files are put in the order of their numbers, and the numbers of a plan of the tables that they
-- mean are said
pub record Generates (number : ℕ) (size : Size) (o : Outcome) : Type 0 where
  pub status : o.status ≡ statuses.Done
  pub puts : o.puts ≡ table_puts (generated number size)
  pub says : SaysPlan number size (generated number size) o.text

-- it ends in no other status than this, beside faults of writing and want of memory
abbrev pub generate_may_end : Status → Bool
generate_may_end statuses.Done = true
generate_may_end _ = false
