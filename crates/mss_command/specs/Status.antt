-- The numbers of the statuses.
use Rattle.std.specs.Prelude.{ℕ, Bool, true, false, ◌&&◌}
use Rattle.mss_command.specs.declared.status.Status.{Status}
use Rattle.mss_command.specs.declared.status.Status.TheVariants.{Done, Words, Tables, Cycle, Certificate, NoCycle, SpentWithCycle, SpentWithout, ReadFault, WriteFault, NoMemory}

abbrev pub status_number : Status → ℕ
status_number Done = 0
status_number Words = 1
status_number Tables = 2
status_number Cycle = 3
status_number Certificate = 4
status_number NoCycle = 5
status_number SpentWithCycle = 6
status_number SpentWithout = 7
status_number ReadFault = 8
status_number WriteFault = 9
status_number NoMemory = 10

-- the status of a command that neither failed to read or write nor wanted memory
abbrev pub is_plain : Status → Bool
is_plain ReadFault = false
is_plain WriteFault = false
is_plain NoMemory = false
is_plain _ = true

-- whether a status is one of these, and neither a fault of reading or writing nor want of memory
abbrev pub ends_by : (Status → Bool) → Status → Bool
ends_by may_end status = is_plain status && may_end status
