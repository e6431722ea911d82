use Rattle.std.proofs.Common.{◌++◌, ◌∷◌, ◌∙◌}
use Rattle.msrp_plan.proofs.Common.{[], Some, None, ap, sym, subst}
use Rattle.msrp_event_audit.specs.Auditors.{HasFed, answer_of}
use Rattle.msrp_event_audit.proofs.Feeding.{fed_next, fed_finds, fed_moves}
use Rattle.msrp_event_audit.proofs.auditor.LogAuditor.feed_next.Goals as goal

pub returns-in-Some-clause-fed : goal.returns-in-Some-clause-fed
returns-in-Some-clause-fed c = λ events fed.
    subst (λ a. HasFed a (events ++ c.args.event ∷ [])) (sym c.store.ensures) (fed_finds c.args.self.now events c.args.event c.in-Some.finding c.requires (sym c.shows.ensures ∙ c.in-Some.is) fed)

pub returns-in-Some-clause-answer : goal.returns-in-Some-clause-answer
returns-in-Some-clause-answer c = λ events fed. ap answer_of (fed_next c.args.self.now events c.args.event (Some c.in-Some.finding) c.requires (sym c.shows.ensures ∙ c.in-Some.is) fed)

pub returns-in-None-clause-fed : goal.returns-in-None-clause-fed
returns-in-None-clause-fed c = λ events fed.
    subst (λ a. HasFed a (events ++ c.args.event ∷ [])) (sym c.take.ensures) (fed_moves c.args.self.now events c.args.event c.requires (sym c.shows.ensures ∙ c.in-None.is) fed)

pub returns-in-None-clause-answer : goal.returns-in-None-clause-answer
returns-in-None-clause-answer c = λ events fed. ap answer_of (fed_next c.args.self.now events c.args.event None c.requires (sym c.shows.ensures ∙ c.in-None.is) fed)
