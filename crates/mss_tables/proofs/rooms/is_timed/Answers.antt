use Rattle.std.proofs.Common.{◌∙◌}
use Rattle.mss_tables.specs.Rooms.{is_of}
use Rattle.mss_tables.proofs.RoomFacts.{some-found}
use Rattle.mss_tables.proofs.rooms.is_timed.Goals as goal

pub returns : goal.returns
returns c = c.is_some.ensures ∙ some-found (is_of c.args.room.now c.args.day) c.args.times.now _ c.first_said.ensures
