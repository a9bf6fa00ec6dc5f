use Rattle.std.proofs.Common.{◌∙◌, ap, map}
use Rattle.mss_model.specs.PartsOf.{parts_of}
use Rattle.mss_model.specs.TableWords.{specialty_count}
use Rattle.mss_tables.specs.Cells.{or_zero}
use Rattle.mss_tables.proofs.CycleFacts.{cells-below, cycle-read, cycle-refused}
use Rattle.mss_tables.proofs.cycle_file.read_options.Goals as goal

pub returns-in_ok-options_in-in-Ok-clause-exact : goal.returns-in_ok-options_in-in-Ok-clause-exact
returns-in_ok-options_in-in-Ok-clause-exact c =
    cycle-read (parts_of c.args.tables.now) c.args.bytes.now c.in-Ok.cells.items c.in_ok-options_in-in-Ok.field-0
    (rw (c.from-days.ensures ∙ c.days.ensures.value, c.requires.rooms, c.requires.specialties) at c.in-Ok.ensures.exact)
    (c.in_ok-options_in-in-Ok.ensures ∙ ap (map or_zero) c.deref.ensures.value)

pub returns-in_ok-options_in-in-Ok-clause-options : goal.returns-in_ok-options_in-in-Ok-clause-options
returns-in_ok-options_in-in-Ok-clause-options c =
    rw (c.in_ok-options_in-in-Ok.ensures, c.deref.ensures.value)
    (cells-below (specialty_count (parts_of c.args.tables.now)) c.in-Ok.cells.items (rw c.requires.specialties at c.in-Ok.ensures.few))

pub returns-in-Err-clause-exact : goal.returns-in-Err-clause-exact
returns-in-Err-clause-exact c =
    rw c.refused.ensures (cycle-refused (parts_of c.args.tables.now) c.args.bytes.now c.in-Err.refusal
    (rw (c.from-days.ensures ∙ c.days.ensures.value, c.requires.rooms, c.requires.specialties) at c.in-Err.ensures.exact))
