-- The texts on weights: their first fault, or what the checker says of them.
use Rattle.std.specs.Prelude.{ℕ, List, ◌++◌, codes}
use Rattle.mss_pctl.specs.Printed.{named_text}
use Rattle.mss_weights.specs.declared.faults.WeightsFault.{WeightsFault}
use Rattle.mss_weights.specs.declared.faults.WeightsKind.{WeightsKind}
use Rattle.mss_weights.specs.declared.faults.WeightsKind.TheVariants as kind

-- the kinds of fault are numbered from 1
abbrev pub kind_number : WeightsKind → ℕ
kind_number kind.TooLong = 1
kind_number kind.Version = 2
kind_number kind.Head = 3
kind_number kind.List = 4
kind_number kind.After = 5

abbrev pub kind_name : WeightsKind → List ℕ
kind_name kind.TooLong = codes "TooLong"
kind_name kind.Version = codes "Version"
kind_name kind.Head = codes "Head"
kind_name kind.List = codes "List"
kind_name kind.After = codes "After"

-- the refusal of a text
unfoldable pub fault_text_of : WeightsFault → List ℕ
fault_text_of fault =
    named_text (codes "weights refused: line ") fault.line ++ named_text (codes " kind ") (kind_number fault.kind)
    ++ codes " " ++ kind_name fault.kind ++ codes "\n"

-- the refusal of weights that don't show their number
abbrev pub not_shown_text : List ℕ
not_shown_text = codes "weights refused: not shown\n"

-- what is said of weights that show this number
abbrev pub accepted_text : ℕ → List ℕ
accepted_text number = named_text (codes "weights accepted: every legal cycle peaks at least at ") number ++ codes "\n"
