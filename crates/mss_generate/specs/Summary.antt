-- The text that `generate` says.
use Rattle.std.specs.Prelude.{ℕ, List, ◌++◌, codes, decimal}
use Rattle.mss_model.specs.declared.parts.TableParts.{TableParts}
use Rattle.mss_model.specs.TableWords.{option_count, slot_count}
use Rattle.mss_report.specs.declared.plan.PlanSummary.{PlanSummary}
use Rattle.mss_report.specs.PlanText.{plan_summary_text}
use Rattle.mss_gen.specs.declared.size.Size.{Size}
use Rattle.mss_generate.specs.Words.{size_word}

-- the number and the size, and how many slots the tables have and how many options each
unfoldable pub head_text : ℕ → Size → TableParts → List ℕ
head_text number size tables =
    codes "generated " ++ decimal number ++ codes " " ++ size_word size ++ codes "\n"
    ++ codes "slots " ++ decimal (slot_count tables) ++ codes " options " ++ decimal (option_count tables) ++ codes "\n"

-- and then the four lines of a plan
unfoldable pub generate_text : ℕ → Size → TableParts → PlanSummary → List ℕ
generate_text number size tables summary = head_text number size tables ++ plan_summary_text summary
