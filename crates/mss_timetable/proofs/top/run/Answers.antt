use Rattle.mss_timetable.proofs.top.run.Goals as goal

pub returns-in-None-clause-write_fault : goal.returns-in-None-clause-write_fault
returns-in-None-clause-write_fault g c = rw (← c.in-None.ensures) c.carry_out.ensures.write_fault

pub returns-in-Some-Cycle-clause-promise : goal.returns-in-Some-Cycle-clause-promise
returns-in-Some-Cycle-clause-promise g c =
    rw (← c.in-Some-Cycle.ensures, c.in-Some-Cycle.field-0-is, ← c.in-Some-Cycle.effort-is) c.carry_out-in-Some-Cycle.ensures.promise

pub returns-in-Some-Cycle-clause-plain : goal.returns-in-Some-Cycle-clause-plain
returns-in-Some-Cycle-clause-plain g c =
    rw (← c.in-Some-Cycle.ensures, c.in-Some-Cycle.field-0-is, ← c.in-Some-Cycle.effort-is) c.carry_out-in-Some-Cycle.ensures.plain

pub returns-in-Some-Cycle-clause-write_fault : goal.returns-in-Some-Cycle-clause-write_fault
returns-in-Some-Cycle-clause-write_fault g c =
    rw (← c.in-Some-Cycle.ensures, c.in-Some-Cycle.field-0-is, ← c.in-Some-Cycle.effort-is) c.carry_out-in-Some-Cycle.ensures.write_fault

pub returns-in-Some-Cycle-clause-complete : goal.returns-in-Some-Cycle-clause-complete
returns-in-Some-Cycle-clause-complete g c =
    rw (← c.in-Some-Cycle.ensures, c.in-Some-Cycle.field-0-is, ← c.in-Some-Cycle.effort-is) c.carry_out-in-Some-Cycle.ensures.complete

pub returns-in-Some-New-clause-promise : goal.returns-in-Some-New-clause-promise
returns-in-Some-New-clause-promise g c =
    rw (← c.in-Some-New.ensures, c.in-Some-New.field-0-is, ← c.in-Some-New.effort-is) c.carry_out-in-Some-New.ensures.promise

pub returns-in-Some-New-clause-plain : goal.returns-in-Some-New-clause-plain
returns-in-Some-New-clause-plain g c =
    rw (← c.in-Some-New.ensures, c.in-Some-New.field-0-is, ← c.in-Some-New.effort-is) c.carry_out-in-Some-New.ensures.plain

pub returns-in-Some-New-clause-write_fault : goal.returns-in-Some-New-clause-write_fault
returns-in-Some-New-clause-write_fault g c =
    rw (← c.in-Some-New.ensures, c.in-Some-New.field-0-is, ← c.in-Some-New.effort-is) c.carry_out-in-Some-New.ensures.write_fault

pub returns-in-Some-New-clause-complete : goal.returns-in-Some-New-clause-complete
returns-in-Some-New-clause-complete g c =
    rw (← c.in-Some-New.ensures, c.in-Some-New.field-0-is, ← c.in-Some-New.effort-is) c.carry_out-in-Some-New.ensures.complete

pub returns-in-Some-Check-clause-write_fault : goal.returns-in-Some-Check-clause-write_fault
returns-in-Some-Check-clause-write_fault g c = rw (← c.in-Some-Check.ensures, c.in-Some-Check.field-0-is) c.carry_out-in-Some-Check.ensures.write_fault
