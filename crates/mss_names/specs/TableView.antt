-- What the fields of a table of names say.
use Rattle.std.specs.Prelude.{◌<◌, ◌^◌, ℕ, List, map, Vec}
use Rattle.std.specs.declared.alloc.Global.{Global}
use Rattle.mss_model.specs.Limits.{AreNames}
use Rattle.mss_names.specs.NameNumbers.{NamesView}
use Rattle.mss_names.specs.declared.table.NameTable.TheInside.{Inside}

abbrev pub bytes_of : Vec ℕ Global → List ℕ
bytes_of v = v.items

abbrev pub view_of : Inside → NamesView
view_of a = record { limit = a.limit; names = map bytes_of a.set.keys }

-- no more names than the limit, each of which keeps the name rule, and no two equal
pub record IsTable (a : Inside) : Type 0 where
  pub names : AreNames 0 a.limit (map bytes_of a.set.keys)
  pub numbered : a.limit < 2 ^ 32
