use Rattle.mss_tables.proofs.TablesFacts.{are_tables}
use Rattle.mss_tables.proofs.read.read_restricted.Goals as goal

pub returns-clause-limits : goal.returns-clause-limits
returns-clause-limits c =
    are_tables c.args.settings.now c.args.hospital.now c.in_ok-restrictions.restrictions c.in_ok-watched.watched
    c.requires.limits c.requires.good (rw c.from.ensures at c.in_ok-restrictions.ensures.limits) c.in_ok-watched.ensures.limits
