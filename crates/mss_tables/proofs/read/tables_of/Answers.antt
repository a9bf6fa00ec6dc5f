use Rattle.mss_tables.proofs.read.tables_of.Goals as goal

pub unreachable-requires : goal.unreachable-requires
unreachable-requires c =
    let no = c.in_default.ensures.exact.1 (rw c.parts_from.ensures c.requires) in
    cc
