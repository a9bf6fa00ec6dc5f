use Rattle.std.proofs.Common.{length}
use Rattle.mss_tables.proofs.AllowanceFacts.{are-watched}
use Rattle.mss_tables.proofs.watch.read_watched.Goals as goal

pub returns-clause-limits : goal.returns-clause-limits
returns-clause-limits c =
    rw (c.in_ok-allow.ensures, c.as_slice.ensures, c.as_slice-2.ensures, c.len.ensures.value) (are-watched c.args.settings.now (length c.args.wards.now) c.in_ok-watch.watch c.requires c.in_ok-watch.ensures.count c.in_ok-watch.ensures.within c.in_ok-watch.ensures.distinct)
