use Rattle.std.proofs.Common.{◌≡◌, refl, sym, arith, false, true}
use Rattle.mss_model.specs.declared.one_block.TheConstants.{PARTS}
use Rattle.mss_tables.specs.BlockFile.{is_endless, is_partial}
use Rattle.mss_tables.proofs.BlockFacts.{is-patients, is-stays}
use Rattle.mss_tables.proofs.block_file.block_of.Goals as goal

pub unreachable-requires : goal.unreachable-requires
unreachable-requires c =
    let whole : is_partial PARTS c.args.patients ≡ false = rw c.as_slice.ensures at (sym c.if-is_partial.ensures) in
    let ends : is_endless PARTS c.args.stays ≡ false = rw c.as_slice-2.ensures at (sym c.if-lacks_end.ensures) in
    let bad : false ≡ true = c.in_default.ensures.some.1 (record { known = refl }, (is-patients PARTS c.args.patients (omega arith) c.requires.few whole, is-stays PARTS c.args.stays (omega arith) c.requires.run ends)) in
    cc bad
