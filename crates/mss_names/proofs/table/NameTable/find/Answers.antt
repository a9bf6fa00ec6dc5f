use Rattle.std.proofs.Common.{add-one, refl}
use Rattle.std.specs.Str.{bytes_eq}
use Rattle.mss_names.specs.NumberingLaws.{position-map}
use Rattle.mss_names.specs.TableView.{bytes_of}
use Rattle.mss_names.proofs.table.NameTable.find.Goals as goal

pub returns-in-Some-clause-number : goal.returns-in-Some-clause-number
returns-in-Some-clause-number c =
    let at = c.in-Some.ensures.index in
    rw (← c.self.view_is, position-map (bytes_eq c.args.name.now) bytes_of c.self.inside.set.keys, ← at, add-one) refl

pub returns-in-None-clause-number : goal.returns-in-None-clause-number
returns-in-None-clause-number c =
    let at = c.in-None.ensures.index in
    rw (← c.self.view_is, position-map (bytes_eq c.args.name.now) bytes_of c.self.inside.set.keys, ← at) refl
