use Rattle.std.proofs.Common.{◌++◌, ◌∷◌, ◌∙◌}
use Rattle.msrp_plan.proofs.Common.{[], ap, sym}
use Rattle.msrp_audit.specs.Audits.{AuditorModel, answer_of}
use Rattle.msrp_audit.proofs.Judging.{faulty, stays_faulty}
use Rattle.msrp_audit.proofs.auditor.Auditor.feed.Goals as goal

pub returns-in-Some-clause-fed : goal.returns-in-Some-clause-fed
returns-in-Some-clause-fed c = λ rows h.
    let is = sym (ap (λ (a : AuditorModel). a.fault) c.self.view_is) ∙ c.in-Some.is in
    faulty c.args.self.now (rows ++ c.args.row ∷ []) c.in-Some.fault is (stays_faulty c.args.self.now rows c.args.row c.in-Some.fault is h)

pub returns-in-Some-clause-answer : goal.returns-in-Some-clause-answer
returns-in-Some-clause-answer c = λ rows h. sym (ap answer_of (stays_faulty c.args.self.now rows c.args.row c.in-Some.fault (sym (ap (λ (a : AuditorModel). a.fault) c.self.view_is) ∙ c.in-Some.is) h))
