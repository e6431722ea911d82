use Rattle.std.proofs.Common.{◌≡◌, ◌∙◌}
use Rattle.msrp_plan.proofs.Common.{ap, sym, true, true≢false, same_Some, PlanModel, is_global}
use Rattle.msrp_core.proofs.Common.{Action, ResId}
use Rattle.msrp_plan.specs.declared.units.Op.TheVariants.{Lock as LockUnit, Unlock as UnlockUnit}
use Rattle.msrp_core.proofs.Steps.{request_phase}
use Rattle.msrp_core.proofs.Acting.{next_unit, unit_at, holds_at, unlock_local}
use Rattle.msrp_core.proofs.jobs.Jobs.act.Goals as goal

pub request-requires-clause-free : goal.request-requires-clause-free
request-requires-clause-free g c =
    let can = c.in-Lock.ensures in
    request_phase c.args.self.now.plan.now can.jobs_fit.accepted can.running.newest can.running.below c.args.self.now.phase c.in-Lock.res (holds_at c.args.self.now c.args.job (LockUnit c.in-Lock.res) can) (unit_at c.args.self.now c.args.job (LockUnit c.in-Lock.res) can)
    (ap (λ (p : PlanModel). is_global p c.in-Lock.res.0) (sym can.jobs_fit.levels) ∙ (sym c.is_global.ensures ∙ c.if-is_global.true)) (sym c.is_waiting.ensures ∙ c.if-is_waiting.false)

pub unlock-requires-clause-local : goal.unlock-requires-clause-local
unlock-requires-clause-local g c = unlock_local c.args.self.now c.args.job c.in-Unlock.res (next_unit c.args.self.now c.args.job (UnlockUnit c.in-Unlock.res) c.in-Unlock.ensures) (sym c.is_holding.ensures ∙ c.if-is_holding.false)

pub returns-else-is_holding-clause-call : goal.returns-else-is_holding-clause-call
returns-else-is_holding-clause-call g c = λ tick row is r e glob.
    let same : r ≡ c.in-Unlock.res = same_Some r c.in-Unlock.res (sym e ∙ (is.res_is ∙ ap (λ (a : Action). a.res) c.unlock.ensures.action)) in
    let t : is_global c.args.self.now.plan.now c.in-Unlock.res.0 ≡ true = ap (λ (x : ResId). is_global c.args.self.now.plan.now x.0) (sym same) ∙ glob in
    absurd (true≢false (sym t ∙ unlock_local c.args.self.now c.args.job c.in-Unlock.res (next_unit c.args.self.now c.args.job (UnlockUnit c.in-Unlock.res) c.in-Unlock.ensures) (sym c.is_holding.ensures ∙ c.if-is_holding.false)))

pub returns-then-is_waiting-clause-call : goal.returns-then-is_waiting-clause-call
returns-then-is_waiting-clause-call g c = λ tick row is r e glob. c.poll.ensures.call tick row is

pub returns-then-is_waiting-clause-quiet : goal.returns-then-is_waiting-clause-quiet
returns-then-is_waiting-clause-quiet g c = λ tick row is quiet. let made = c.poll.ensures.call tick row is in absurd (true≢false (sym made.global ∙ quiet made.res made.resource))

pub returns-then-is_global-clause-call : goal.returns-then-is_global-clause-call
returns-then-is_global-clause-call g c = λ tick row is r e glob. c.request.ensures.call tick row is

pub returns-then-is_global-clause-quiet : goal.returns-then-is_global-clause-quiet
returns-then-is_global-clause-quiet g c = λ tick row is quiet. let made = c.request.ensures.call tick row is in absurd (true≢false (sym made.global ∙ quiet made.res made.resource))

pub returns-then-is_holding-clause-call : goal.returns-then-is_holding-clause-call
returns-then-is_holding-clause-call g c = λ tick row is r e glob. c.release.ensures.call tick row is

pub returns-then-is_holding-clause-quiet : goal.returns-then-is_holding-clause-quiet
returns-then-is_holding-clause-quiet g c = λ tick row is quiet. let made = c.release.ensures.call tick row is in absurd (true≢false (sym made.global ∙ quiet made.res made.resource))
