use Rattle.std.proofs.Common.{◌≡◌, ◌∙◌}
use Rattle.msrp_plan.proofs.Common.{sym, subst, refl}
use Rattle.msrp_plan.specs.Plan.{PlanModel}
use Rattle.msrp_plan.specs.WellFormed.{IsPlan}
use Rattle.msrp_c.specs.Feeding.{Breaks, Steps}
use Rattle.msrp_c.proofs.Streaming.{bad-is, fed-more, fed-stays, good-is}
use Rattle.msrp_c.proofs.held.FedAuditor.feed.Goals as goal

pub returns-then-not-is_good-clause-fed : goal.returns-then-not-is_good-clause-fed
returns-then-not-is_good-clause-fed c = λ plan turns h. fed-stays plan turns c.args.turn.now c.args.self.now (bad-is _ (sym c.is_good.ensures ∙ c.if-not-is_good.true)) h

pub returns-clause-fed : goal.returns-clause-fed
returns-clause-fed c = λ plan turns h.
    let is : c.args.self.now.loaded.plan.now ≡ plan = sym c.args.self.now.same ∙ h.plan_is in
    fed-more plan turns c.args.turn.now c.args.self.now _ c.after-number.result (subst IsPlan is c.tasks-accepted.ensures.plan) (good-is _ (sym c.is_good.ensures ∙ c.if-not-is_good.false)) h c.after-number.ensures
    (subst (λ (p : PlanModel). Steps p c.args.self.now.auditor c.args.turn.now c.after-number.result c.step-verdict.new.auditor c.step-verdict.result) is c.step-verdict.ensures.steps)
    (subst (λ (p : PlanModel). Breaks p c.args.self.now.auditor c.args.turn.now c.step-verdict.result c.step-verdict.new.broken) is c.step-verdict.ensures.breaks) c.step-verdict.ensures.plan refl

pub returns-then-is_good-clause-fed : goal.returns-then-is_good-clause-fed
returns-then-is_good-clause-fed c = λ plan turns h.
    let is : c.args.self.now.loaded.plan.now ≡ plan = sym c.args.self.now.same ∙ h.plan_is in
    let was = good-is _ (sym c.is_good.ensures ∙ c.if-not-is_good.false) in
    let same = good-is _ (sym c.is_good-2.ensures ∙ c.if-is_good.true) ∙ sym was in
    fed-more plan turns c.args.turn.now c.args.self.now _ c.after-number.result (subst IsPlan is c.tasks-accepted.ensures.plan) was h c.after-number.ensures
    (subst (λ found. Steps plan c.args.self.now.auditor c.args.turn.now c.after-number.result c.step-verdict.new.auditor found) same (subst (λ (p : PlanModel). Steps p c.args.self.now.auditor c.args.turn.now c.after-number.result c.step-verdict.new.auditor c.step-verdict.result) is c.step-verdict.ensures.steps))
    (subst (λ found. Breaks plan c.args.self.now.auditor c.args.turn.now found c.step-verdict.new.broken) same (subst (λ (p : PlanModel). Breaks p c.args.self.now.auditor c.args.turn.now c.step-verdict.result c.step-verdict.new.broken) is c.step-verdict.ensures.breaks)) c.step-verdict.ensures.plan refl

pub returns-then-is_good-clause-found : goal.returns-then-is_good-clause-found
returns-then-is_good-clause-found c = sym (good-is _ (sym c.is_good.ensures ∙ c.if-not-is_good.false))
