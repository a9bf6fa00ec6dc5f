-- What is made of the files by their reading.
use Rattle.std.proofs.Common.{◌≡◌, ℕ, List, Some, Err, refl, ap}
use Rattle.mss_model.specs.declared.faults.CycleFault.{CycleFault}
use Rattle.mss_model.specs.declared.faults.TableFault.{TableFault}
use Rattle.mss_model.specs.declared.parts.TableParts.{TableParts}
use Rattle.mss_report.specs.Faults.{cycle_fault_text_of, fault_text_of}
use Rattle.mss_tables.specs.CycleFile.{cycle_at}
use Rattle.mss_tables.specs.TablesMeaning.{tables_at}
use Rattle.mss_command.specs.declared.status.Status.TheVariants as statuses
use Rattle.mss_command.specs.Cycles.{RefusesFault}
use Rattle.mss_command.specs.Judging.{RefusesTables}
use Rattle.mss_command.specs.Outcome.{Outcome, saying}
use Rattle.mss_command.specs.Refusals.{too_long}

pub tables_refused : (files : List (List ℕ)) (fault : TableFault) (o : Outcome) → tables_at files ≡ Err fault → o ≡ saying statuses.Tables (fault_text_of fault)
    → RefusesTables (Some (tables_at files)) o
tables_refused files fault o read said = record { fault = fault; first = ap Some read; refuses = said }

pub long_refused : (file : ℕ) (o : Outcome) → o ≡ saying statuses.Tables (fault_text_of (too_long file)) → RefusesTables (Some (Err (too_long file))) o
long_refused file o said = record { fault = too_long file; first = refl; refuses = said }

pub cycle_refused : (tables : TableParts) (bytes : List ℕ) (fault : CycleFault) (o : Outcome) → cycle_at tables bytes ≡ Err (record { row = fault.row; kind = fault.kind })
    → o ≡ saying statuses.Cycle (cycle_fault_text_of fault) → RefusesFault tables bytes o
cycle_refused tables bytes fault o read said = record { fault = fault; first = read; refuses = said }
