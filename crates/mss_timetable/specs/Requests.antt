-- What the words ask for, and what it comes to and promises over the files of a desk.
use Rattle.std.specs.Prelude.{ℕ, Bool, nat_le, ◌&&◌, List, [], ◌∷◌, map, Option, Some, None, String, codes, if◌then◌else◌}
use Rattle.std.specs.Str.{bytes_eq}
use Rattle.std.specs.String.{string_bytes}
use Rattle.std.specs.declared.alloc.Global.{Global}
use Rattle.mss_desk.specs.Desk.{Content, Files}
use Rattle.mss_command.specs.declared.status.Status.{Status}
use Rattle.mss_command.specs.Checks.{check_may_answer}
use Rattle.mss_command.specs.Cycles.{cycle_file}
use Rattle.mss_command.specs.Fetched.{file_limit}
use Rattle.mss_command.specs.Numbers.{number_of_word}
use Rattle.mss_command.specs.Outcome.{Outcome}
use Rattle.mss_command.specs.Promised.{SaysOnly}
use Rattle.mss_command.specs.Questions.{AskLacks, Asks, may_end_asking}
use Rattle.mss_command.specs.Usage.{NothingPromised, UsageDefines, usage_may_end}
use Rattle.mss_local.specs.declared.improving.Effort.{Effort}
use Rattle.mss_timetable.specs.declared.request.Request.{Request}
use Rattle.mss_timetable.specs.declared.request.Request.TheVariants.{Cycle, New, Check}
use Rattle.mss_timetable.specs.declared.request.TheConstants.{MOST_TRIES}
use Rattle.mss_timetable.specs.Check.{CheckDefines, SaysLower}
use Rattle.mss_timetable.specs.Lower.{weights_file, weights_limit}
use Rattle.mss_timetable.specs.Improves.{NewDefines, NewPromised, TodayDefines, TodayPromised, new_may_answer, today_may_answer}

-- a number of tries from 1 to 100,000,000
abbrev pub as_tries : Option ℕ → Option ℕ
as_tries None = None
as_tries (Some number) = if nat_le 1 number && nat_le number MOST_TRIES then Some number else None

-- the tries that a word names
abbrev pub tries_in : List ℕ → Option ℕ
tries_in word = as_tries (number_of_word word)

abbrev pub effort_with : Option ℕ → Option ℕ → Option Effort
effort_with (Some number) (Some tries) = Some (record { number = number; tries = tries })
effort_with _ _ = None

-- the number and the tries that two words name
abbrev pub effort_in : List ℕ → List ℕ → Option Effort
effort_in number tries = effort_with (number_of_word number) (tries_in tries)

-- the request for a better timetable, where its numbers are in order
abbrev pub cycle_request : Option Effort → Option Request
cycle_request None = None
cycle_request (Some effort) = Some (Cycle effort)

-- the request for a new timetable, where its numbers are in order
abbrev pub new_request : Option Effort → Option Request
new_request None = None
new_request (Some effort) = Some (New effort)

-- the request that these words make
abbrev pub request : List (List ℕ) → Option Request
request (word ∷ []) = if bytes_eq word (codes "check") then Some Check else None
request (word ∷ number ∷ tries ∷ []) =
    if bytes_eq word (codes "cycle") then cycle_request (effort_in number tries)
    else if bytes_eq word (codes "new") then new_request (effort_in number tries)
    else None
request _ = None

abbrev pub request_in : List (String Global) → Option Request
request_in words = request (map string_bytes words)

abbrev pub usage : List ℕ
usage = codes "usage: mss_improve cycle NUMBER TRIES | new NUMBER TRIES | check\n"

-- the words come to this over these files
abbrev pub Defines : Option Request → Files → Outcome → Type 0
Defines None files o = UsageDefines usage o
Defines (Some (Cycle effort)) files o = Asks (TodayDefines effort.tries) (Some cycle_file) file_limit files o
Defines (Some (New effort)) files o = Asks (NewDefines effort.tries) None 0 files o
Defines (Some Check) files o = Asks CheckDefines (Some weights_file) weights_limit files o

-- a file that is read in its turn isn't there
abbrev pub Lacks : Option Request → Files → Type 0
Lacks None files = ⊥
Lacks (Some (Cycle effort)) files = AskLacks (Some cycle_file) file_limit files
Lacks (Some (New effort)) files = AskLacks None 0 files
Lacks (Some Check) files = AskLacks (Some weights_file) weights_limit files

-- the statuses with which the words may end, beside faults of reading and writing and want of memory
abbrev pub may_end : Option Request → Status → Bool
may_end None status = usage_may_end status
may_end (Some (Cycle effort)) status = may_end_asking today_may_answer status
may_end (Some (New effort)) status = may_end_asking new_may_answer status
may_end (Some Check) status = may_end_asking check_may_answer status

-- what is promised of the contents before and after, in the words of the exact model alone
abbrev pub Promised : Option Request → Status → Content → Content → Type 0
Promised None status c d = NothingPromised status c d
Promised (Some (Cycle effort)) status c d = TodayPromised effort.tries status c d
Promised (Some (New effort)) status c d = NewPromised effort.tries status c d
Promised (Some Check) status c d = SaysOnly SaysLower status c d
