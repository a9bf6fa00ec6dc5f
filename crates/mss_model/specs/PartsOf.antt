-- The parts of tables within the limits.
use Rattle.mss_model.specs.declared.parts.TableParts.{TableParts}
use Rattle.mss_model.specs.declared.table_set.Tables.{Tables}

-- what the tables say
abbrev pub parts_of : Tables → TableParts
parts_of t = t.parts
