-- What `block` comes to keeps its promise.
use Rattle.std.proofs.Common.{◌≡◌, ℕ, Bool, true, false, cond, ltb, List, [], length, Option, Some, None, inl, inr, refl, ap}
use Rattle.std.specs.FinMap.{get}
use Rattle.mss_desk.specs.Desk.{Files, Content}
use Rattle.mss_report.specs.BlockText.{block_lines}
use Rattle.mss_command.specs.declared.status.Status.TheVariants as statuses
use Rattle.mss_command.specs.Fetched.{TooLong, Bytes, fetched, file_limit, within}
use Rattle.mss_command.specs.Outcome.{Did, Outcome}
use Rattle.mss_command.specs.Promised.{SaysOnly}
use Rattle.mss_command.specs.PromisedLaws.{says_only}
use Rattle.mss_command.specs.QuestionLaws.{not_tables}
use Rattle.mss_evaluate.specs.Block.{BlockDefines, PrintedBlock, block_file}

-- block.csv was read
read : (files : Files) (bytes : List ℕ) (long : Bool) (o : Outcome) → get files block_file ≡ Some bytes → BlockDefines (cond long TooLong (Bytes bytes)) o
    → o.status ≡ statuses.Done → PrintedBlock files o.text × (o.puts ≡ [])
read files bytes true o stored defines done = absurd (not_tables o (ap (λ o. o.status) defines) done)
read files bytes false o stored (inl p) done =
    (record { bytes = bytes; stored = stored; block = p.block; means = p.means; lines = block_lines p.block; exact = p.prints.exact; subjects = p.prints.subjects; hold = p.prints.hold }, p.puts)
read files bytes false o stored (inr r) done = absurd (not_tables o (ap (λ o. o.status) r.refuses) done)

-- block.csv is stored, or isn't there
stored_block : (files : Files) (stored : Option (List ℕ)) (o : Outcome) → get files block_file ≡ stored → BlockDefines (within file_limit stored) o
    → o.status ≡ statuses.Done → PrintedBlock files o.text × (o.puts ≡ [])
stored_block files None o e defines done = absurd defines
stored_block files (Some bytes) o e defines done = read files bytes (ltb file_limit (length bytes)) o e defines done

pub block_keeps : (o : Outcome) (c d : Content) → BlockDefines (fetched file_limit c.files block_file) o → Did o c d → SaysOnly PrintedBlock o.status c d
block_keeps o c d defines did = says_only PrintedBlock o c d did (λ done. stored_block c.files (get c.files block_file) o refl defines done)
