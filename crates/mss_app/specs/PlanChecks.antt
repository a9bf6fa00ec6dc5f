-- What `plan` puts passes `check`, and what `plan alike` puts passes `check alike`.
use Rattle.std.proofs.Common.{◌≡◌, ◌∙◌, ℕ, List, Option, Some, refl, ap}
use Rattle.std.specs.FinMap.{get, insert}
use Rattle.mss_model.specs.declared.parts.TableParts.{TableParts}
use Rattle.mss_desk.specs.Desk.{Content, Files}
use Rattle.mss_cert.specs.CertificateText.{certificate_text}
use Rattle.mss_command.specs.declared.status.Status.{Status}
use Rattle.mss_command.specs.declared.status.Status.TheVariants as statuses
use Rattle.mss_command.specs.Answers.{Comes}
use Rattle.mss_command.specs.GatheredLaws.{still_stored, stored_read}
use Rattle.mss_command.specs.PutFacts.{get_same}
use Rattle.mss_command.specs.Questions.{AskLacks, Asks}
use Rattle.mss_certify.specs.Check.{CheckDefines, StoresValid, certificate_file, certificate_limit}
use Rattle.mss_certify.specs.Exactness.{comes_to_done}
use Rattle.mss_plan.specs.Plan.{PrintedPlan, files_of, planned_file}

module _ (rule : TableParts → List ℕ → Option ℕ) (before after : Files) (status : Status) (text : List ℕ) (p : PrintedPlan rule before after status text) where
  certificate_stored : get after certificate_file ≡ Some (certificate_text p.certificate)
  certificate_stored = ap (λ (m : Files). get m certificate_file) p.files ∙ get_same (insert before planned_file p.planned) certificate_file (certificate_text p.certificate)

  -- the files that are left hold a valid certificate of the same tables
  pub plan_is_valid : StoresValid rule after
  plan_is_valid = record {
    tables = p.tables;
    stored = still_stored (files_of p.planned p.certificate) before after p.tables refl p.files p.stored;
    bytes = certificate_text p.certificate;
    read = stored_read certificate_limit (get after certificate_file) (certificate_text p.certificate) certificate_stored p.within;
    good = record { certificate = p.certificate; short = p.short; text = refl; valid = p.valid };
  }

-- a check by the same rules over the files that a plan leaves comes to status 0
pub plan_is_accepted : (rule : TableParts → List ℕ → Option ℕ) (before : Files) (c : Content) (status ended : Status) (text : List ℕ) → PrintedPlan rule before c.files status text
    → Comes (Asks (CheckDefines rule) (Some certificate_file) certificate_limit) (AskLacks (Some certificate_file) certificate_limit) ended c → ended ≡ statuses.Done
plan_is_accepted rule before c status ended text p comes = comes_to_done rule c ended (plan_is_valid rule before c.files status text p) comes
