use Rattle.std.proofs.Common.{◌∙◌}
use Rattle.msrp_plan.proofs.Common.{ap, sym}
use Rattle.msrp_event_audit.specs.Auditors.{AuditorModel, answer_of}
use Rattle.msrp_event_audit.proofs.Feeding.{fed_found}
use Rattle.msrp_event_audit.proofs.Following.{shown}
use Rattle.msrp_event_audit.proofs.auditor.LogAuditor.feed.Goals as goal

pub returns-in-Some-clause-fed : goal.returns-in-Some-clause-fed
returns-in-Some-clause-fed c = λ events fed. fed_found c.args.self.now events c.args.event c.in-Some.finding (sym (ap (λ (a : AuditorModel). a.finding) c.self.view_is) ∙ c.in-Some.is) fed

pub returns-in-Some-clause-answer : goal.returns-in-Some-clause-answer
returns-in-Some-clause-answer c = λ events fed.
    sym (ap answer_of (shown c.args.self.now.system c.args.self.now.tolerances events c.args.event c.in-Some.finding (sym fed.finding ∙ (sym (ap (λ (a : AuditorModel). a.finding) c.self.view_is) ∙ c.in-Some.is))))
