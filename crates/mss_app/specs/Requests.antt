-- What the words ask for, and what it comes to and promises over the files of a desk. Only these definitions grow with
-- the commands.
use Rattle.std.specs.Prelude.{◌≡◌, ℕ, Bool, List, [], ◌∷◌, map, Option, Some, None, String, codes, if◌then◌else◌, ◌&&◌}
use Rattle.std.specs.Str.{bytes_eq}
use Rattle.std.specs.String.{string_bytes}
use Rattle.std.specs.declared.alloc.Global.{Global}
use Rattle.mss_desk.specs.Desk.{Content, Files}
use Rattle.mss_command.specs.declared.status.Status.{Status}
use Rattle.mss_command.specs.Checks.{check_may_answer}
use Rattle.mss_command.specs.Fetched.{Missing, fetched, file_limit}
use Rattle.mss_command.specs.Cycles.{cycle_file}
use Rattle.mss_command.specs.Outcome.{Outcome}
use Rattle.mss_command.specs.Promised.{SaysOnly}
use Rattle.mss_command.specs.Questions.{AskLacks, Asks, may_end_asking}
use Rattle.mss_alike.specs.declared.rule_set.RuleSet.TheVariants.{Legal, Canonical}
use Rattle.mss_alike.specs.RuleSets.{rule_of}
use Rattle.mss_command.specs.Usage.{NothingPromised, UsageDefines, usage_may_end}
use Rattle.mss_evaluate.specs.declared.evaluation.Form.TheVariants.{Plain, Json}
use Rattle.mss_evaluate.specs.Block.{BlockDefines, PrintedBlock, block_file, block_may_end}
use Rattle.mss_evaluate.specs.Evaluate.{CycleDefines, PrintedEvaluation, evaluation_may_answer, text_in}
use Rattle.mss_plan.specs.Plan.{PlanDefines, PlanPromised, plan_may_answer}
use Rattle.mss_certify.specs.Check.{CheckDefines, SaysTrue, certificate_file, certificate_limit}
use Rattle.mss_generate.specs.declared.generate.Generate.{Generate}
use Rattle.mss_generate.specs.Generates.{Generates, generate_may_end}
use Rattle.mss_generate.specs.Kept.{Kept}
use Rattle.mss_generate.specs.Words.{generate_in}
use Rattle.mss_app.specs.declared.request.Request.{Request}
use Rattle.mss_app.specs.declared.request.Request.TheVariants.{Block, Evaluate, Plan, Check}
use Rattle.mss_app.specs.declared.request.Request.TheVariants as requests

-- the request to generate, where its words are in order
abbrev pub generate_request : Option Generate → Option Request
generate_request (Some command) = Some (requests.Generate command)
generate_request None = None

-- the request that these words make
abbrev pub request : List (List ℕ) → Option Request
request (word ∷ []) = if bytes_eq word (codes "block") then Some Block
    else if bytes_eq word (codes "evaluate") then Some (Evaluate Plain)
    else if bytes_eq word (codes "plan") then Some (Plan Legal)
    else if bytes_eq word (codes "check") then Some (Check Legal)
    else None
request (word ∷ form ∷ []) =
    if bytes_eq word (codes "evaluate") && bytes_eq form (codes "json") then Some (Evaluate Json)
    else if bytes_eq word (codes "plan") && bytes_eq form (codes "alike") then Some (Plan Canonical)
    else if bytes_eq word (codes "check") && bytes_eq form (codes "alike") then Some (Check Canonical)
    else None
request (word ∷ number ∷ size ∷ []) = if bytes_eq word (codes "generate") then generate_request (generate_in number size) else None
request _ = None

abbrev pub request_in : List (String Global) → Option Request
request_in words = request (map string_bytes words)

abbrev pub usage : List ℕ
usage = codes "usage: mss block | evaluate | evaluate json | plan | plan alike | check | check alike | generate NUMBER SIZE\n"

-- the words come to this over these files
abbrev pub Defines : Option Request → Files → Outcome → Type 0
Defines None files o = UsageDefines usage o
Defines (Some Block) files o = BlockDefines (fetched file_limit files block_file) o
Defines (Some (Evaluate form)) files o = Asks (CycleDefines (text_in form)) (Some cycle_file) file_limit files o
Defines (Some (Plan rules)) files o = Asks (PlanDefines (rule_of rules)) None 0 files o
Defines (Some (requests.Generate command)) files o = Generates command.number command.size o
Defines (Some (Check rules)) files o = Asks (CheckDefines (rule_of rules)) (Some certificate_file) certificate_limit files o

-- a file that is read in its turn isn't there
abbrev pub Lacks : Option Request → Files → Type 0
Lacks None files = ⊥
Lacks (Some Block) files = fetched file_limit files block_file ≡ Missing
Lacks (Some (Evaluate form)) files = AskLacks (Some cycle_file) file_limit files
Lacks (Some (Plan rules)) files = AskLacks None 0 files
Lacks (Some (requests.Generate command)) files = ⊥
Lacks (Some (Check rules)) files = AskLacks (Some certificate_file) certificate_limit files

-- the statuses with which the words may end, beside faults of reading and writing and want of memory
abbrev pub may_end : Option Request → Status → Bool
may_end None status = usage_may_end status
may_end (Some Block) status = block_may_end status
may_end (Some (Evaluate form)) status = may_end_asking evaluation_may_answer status
may_end (Some (Plan rules)) status = may_end_asking plan_may_answer status
may_end (Some (requests.Generate command)) status = generate_may_end status
may_end (Some (Check rules)) status = may_end_asking check_may_answer status

-- what is promised of the contents before and after, in the words of the exact model alone
abbrev pub Promised : Option Request → Status → Content → Content → Type 0
Promised None status c d = NothingPromised status c d
Promised (Some Block) status c d = SaysOnly PrintedBlock status c d
Promised (Some (Evaluate form)) status c d = SaysOnly (PrintedEvaluation (text_in form)) status c d
Promised (Some (Plan rules)) status c d = PlanPromised (rule_of rules) status c d
Promised (Some (requests.Generate command)) status c d = Kept command.number command.size c d
Promised (Some (Check rules)) status c d = SaysOnly SaysTrue status c d
