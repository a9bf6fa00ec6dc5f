-- Worked examples of the texts, each proved by computing.
use Rattle.std.specs.Prelude.{◌≡◌, false, true, None, Some, codes, refl}
use Rattle.std.specs.Fmt.{digits}
use Rattle.mss_model.specs.declared.faults.Kind.TheVariants.{Range, ChanceSum, StayAfterEnd, Word}
use Rattle.mss_cert.specs.declared.faults.CertKind.TheVariants.{NoEnd}
use Rattle.mss_cert.specs.declared.verdict.Reason.TheVariants.{BoundLow}
use Rattle.mss_cert.specs.declared.verdict.Verdict.TheVariants.{Yes, No}
use Rattle.mss_pctl.specs.Printed.{named_text}
use Rattle.mss_report.specs.Faults.{kind_text, fault_text_of, cycle_fault_text_of, rule_text_of}
use Rattle.mss_report.specs.CertificateTexts.{refused_text, cert_fault_text_of, verdict_text_of}
use Rattle.mss_report.specs.PlanText.{plan_summary_text}

-- ---- refusals of tables and cycles

chance_sum : fault_text_of (record { file = 3; row = 0; item = 1; kind = ChanceSum }) ≡ codes "tables refused: patients.csv record 0 item 1 kind 16 ChanceSum\n"
unfolding fault_text_of kind_text named_text digits
chance_sum = refl

stay_after_end : fault_text_of (record { file = 4; row = 2; item = 0; kind = StayAfterEnd }) ≡ codes "tables refused: stays.csv record 2 item 0 kind 18 StayAfterEnd\n"
unfolding fault_text_of kind_text named_text digits
stay_after_end = refl

word : fault_text_of (record { file = 10; row = 2; item = 0; kind = Word }) ≡ codes "tables refused: block.csv record 2 item 0 kind 21 Word\n"
unfolding fault_text_of kind_text named_text digits
word = refl

another_day : cycle_fault_text_of (record { row = 1; kind = Range }) ≡ codes "cycle refused: record 1 kind 5 Range\n"
unfolding cycle_fault_text_of kind_text named_text digits
another_day = refl

one_microscope : rule_text_of 4 ≡ codes "cycle refused: rule 4\n"
unfolding rule_text_of named_text digits
one_microscope = refl

-- ---- what is said of certificates

no_end : cert_fault_text_of (record { line = 16; kind = NoEnd }) ≡ codes "certificate refused: line 16 kind 5 NoEnd\n"
unfolding refused_text named_text digits
no_end = refl

bound_low : verdict_text_of (No 13 BoundLow) ≡ codes "certificate refused: line 13 reason 6 BoundLow\n"
unfolding refused_text named_text digits
bound_low = refl

at_least_two : verdict_text_of (Yes (Some 2)) ≡ codes "certificate accepted: every legal cycle peaks at least at 2\n"
unfolding named_text digits
at_least_two = refl

none_legal : verdict_text_of (Yes None) ≡ codes "certificate accepted: no legal cycle\n"
none_legal = refl

-- ---- the four lines of a plan

-- the search closed
closed : plan_summary_text (record { upper = Some 2; lower = Some 2; turns = 10; spent = false }) ≡ codes "plan done\nupper 2\nlower 2\nturns 10\n"
unfolding plan_summary_text named_text digits
closed = refl

-- it found no legal cycle, and there is none
no_cycle : plan_summary_text (record { upper = None; lower = None; turns = 0; spent = false }) ≡ codes "plan none\nupper none\nlower none\nturns 0\n"
unfolding plan_summary_text named_text digits
no_cycle = refl

-- the budget was spent before a cycle was found
spent_early : plan_summary_text (record { upper = None; lower = Some 0; turns = 1; spent = true }) ≡ codes "plan spent\nupper none\nlower 0\nturns 1\n"
unfolding plan_summary_text named_text digits
spent_early = refl

-- it was spent with a cycle
spent_later : plan_summary_text (record { upper = Some 4; lower = Some 2; turns = 7; spent = true }) ≡ codes "plan spent\nupper 4\nlower 2\nturns 7\n"
unfolding plan_summary_text named_text digits
spent_later = refl
