-- `block`, `evaluate` and `evaluate json` come to one outcome over the same files.
use Rattle.std.proofs.Common.{◌≡◌, ℕ, List, inl, inr, sym, ap, ◌∙◌}
use Rattle.mss_model.specs.declared.parts.TableParts.{TableParts}
use Rattle.mss_pctl.specs.CensusPeak.{IsCyclePeak}
use Rattle.mss_pctl.specs.PlacesPeak.{highest}
use Rattle.mss_pctl.specs.declared.first_largest.FirstLargest.{FirstLargest}
use Rattle.mss_pctl.specs.declared.peak.Peak.{Peak}
use Rattle.mss_tables.specs.BlockFile.{block_at}
use Rattle.mss_report.specs.BlockText.{block_text_of}
use Rattle.mss_report.specs.Evaluation.{Prints, report_of}
use Rattle.mss_report.specs.Faults.{fault_text_of}
use Rattle.mss_report.specs.Report.{ReportView}
use Rattle.mss_command.specs.declared.status.Status.{Status}
use Rattle.mss_command.specs.declared.status.Status.TheVariants as statuses
use Rattle.mss_command.specs.Fetched.{Fetched, Missing, TooLong, Bytes}
use Rattle.mss_command.specs.OneCycle.{one_cycle}
use Rattle.mss_command.specs.OneOutcome.{IsOneAnswer}
use Rattle.mss_command.specs.Outcome.{Outcome, saying}
use Rattle.mss_command.specs.ReadingLaws.{meaning_or_fault, same_fault, same_meaning}
use Rattle.mss_evaluate.specs.Block.{BlockDefines}
use Rattle.mss_evaluate.specs.Evaluate.{CycleDefines, EvaluatesCycle}

-- ---- the peak is one

abbrev peak_with : ℕ → ℕ → ℕ → ℕ → Peak
peak_with low high ward day = record { low = low; high = high; ward = ward; day = day }

pub same_peak : (tables : TableParts) (cycle : List ℕ) (p q : Peak) → IsCyclePeak tables cycle p → IsCyclePeak tables cycle q → p ≡ q
same_peak tables cycle p q a b =
    let low : p.low ≡ q.low = a.low ∙ sym b.low in
    let same : highest p ≡ highest q = a.high.is ∙ sym b.high.is in
    let high : p.high ≡ q.high = ap (λ (l : FirstLargest). l.number) same in
    let ward : p.ward ≡ q.ward = ap (λ (l : FirstLargest). l.ward) same in
    let day : p.day ≡ q.day = ap (λ (l : FirstLargest). l.day) same in
    ap (λ n. peak_with n p.high p.ward p.day) low ∙ ap (λ n. peak_with q.low n p.ward p.day) high ∙ ap (λ n. peak_with q.low q.high n p.day) ward
    ∙ ap (peak_with q.low q.high q.ward) day

-- ---- and so is the text

same_text : (form : ReportView → List ℕ) (tables : TableParts) (cycle s t : List ℕ) → Prints form tables cycle s → Prints form tables cycle t → s ≡ t
same_text form tables cycle s t a b =
    a.exact ∙ ap form (a.of_tables.exact ∙ ap (report_of tables cycle) (same_peak tables cycle a.report.peak b.report.peak a.of_tables.peak b.of_tables.peak) ∙ sym b.of_tables.exact)
    ∙ sym b.exact

abbrev outcome_with : Status → List (List ℕ × List ℕ) → List ℕ → Outcome
outcome_with status puts text = record { status = status; puts = puts; text = text }

same_outcome : (o p : Outcome) → o.status ≡ p.status → o.puts ≡ p.puts → o.text ≡ p.text → o ≡ p
same_outcome o p status puts text =
    ap (λ s. outcome_with s o.puts o.text) status ∙ ap (λ ps. outcome_with p.status ps o.text) puts ∙ ap (outcome_with p.status p.puts) text

evaluated : (form : ReportView → List ℕ) (tables : TableParts) (cycle : List ℕ) (o p : Outcome) → EvaluatesCycle form tables cycle o → EvaluatesCycle form tables cycle p → o ≡ p
evaluated form tables cycle o p a b = same_outcome o p (a.status ∙ sym b.status) (a.puts ∙ sym b.puts) (same_text form tables cycle o.text p.text a.prints b.prints)

pub evaluation_is_one : (form : ReportView → List ℕ) → IsOneAnswer (CycleDefines form)
evaluation_is_one form tables file o p a b = one_cycle (EvaluatesCycle form tables) tables file o p (evaluated form tables) a b

-- ---- and so is that of a block

pub block_is_one : (file : Fetched) (o p : Outcome) → BlockDefines file o → BlockDefines file p → o ≡ p
block_is_one Missing o p a b = absurd a
block_is_one TooLong o p a b = a ∙ sym b
block_is_one (Bytes bytes) o p (inl a) (inl b) =
    same_outcome o p (a.status ∙ sym b.status) (a.puts ∙ sym b.puts) (a.prints.exact ∙ ap block_text_of (same_meaning a.block b.block (block_at bytes) a.means b.means) ∙ sym b.prints.exact)
block_is_one (Bytes bytes) o p (inl a) (inr r) = absurd (meaning_or_fault a.block r.fault (block_at bytes) a.means r.first)
block_is_one (Bytes bytes) o p (inr r) (inl b) = absurd (meaning_or_fault b.block r.fault (block_at bytes) b.means r.first)
block_is_one (Bytes bytes) o p (inr r) (inr s) =
    r.refuses ∙ ap (λ f. saying statuses.Tables (fault_text_of f)) (same_fault r.fault s.fault (block_at bytes) r.first s.first) ∙ sym s.refuses
