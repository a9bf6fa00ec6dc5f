use Rattle.std.proofs.Common.{ap, ◌∙◌}
use Rattle.mss_model.specs.PartsOf.{parts_of}
use Rattle.mss_alike.specs.RuleSets.{rule_of}
use Rattle.mss_command.specs.Outcome.{outcome_of, saying}
use Rattle.mss_certify.specs.Check.{verdict_status}
use Rattle.mss_certify.proofs.Verdicts.{defines}
use Rattle.mss_certify.proofs.certification.verdict_reply.Goals as goal

pub returns-clause-defines : goal.returns-clause-defines
returns-clause-defines g c =
    let v = c.in_ok-verdict in
    defines (rule_of c.args.rules) (parts_of c.args.tables.now) c.args.certificate.now v.verdict (outcome_of c.saying.result)
    v.ensures.valid v.ensures.only v.ensures.exact v.ensures.proves
    (c.saying.ensures ∙ ap (λ s. saying s c.in_ok-text.text) c.status_of.ensures.value ∙ ap (λ t. saying (verdict_status v.verdict) t) c.in_ok-text.ensures)
