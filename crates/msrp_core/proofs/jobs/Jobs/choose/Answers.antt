use Rattle.std.proofs.Common.{◌≡◌, ◌∙◌}
use Rattle.msrp_plan.proofs.Common.{Some, true, false, ap, arith, lt-ltb, le-ltb, PlanModel, level}
use Rattle.msrp_core.proofs.Common.{ReadyModel, current_ceiling}
use Rattle.msrp_core.proofs.Running.{choice_before, choose_risen, choose_unrisen, risen_known, states_before}
use Rattle.msrp_core.proofs.jobs.Jobs.choose.Goals as goal

pub level-requires : goal.level-requires
level-requires c = risen_known c.release_to.new.self c.in-Some.job c.release_to.ensures.jobs c.in-Some.is

pub returns-in-Some-clause-choice : goal.returns-in-Some-clause-choice
returns-in-Some-clause-choice c =
    let mid = c.release_to.new.self in
    let e = c.release_to.ensures in
    let j = c.in-Some.job in
    let t = c.if-level-ceiling.true in
    let l : c.level.result ≡ level mid.plan.now j.task.0 = c.level.ensures ∙ ap (λ (p : PlanModel). level p j.task.0) e.jobs.levels in
    let k = c.ceiling.ensures in
    choice_before c.args.self.now mid c.args.tick e.others e.ready (Some j) (λ log told.
    choose_risen mid c.args.tick c.top-running.result log e.jobs c.top-running.ensures.first c.top-running.ensures.newest (ap (λ (m : ReadyModel). m.tick) e.ready) told j true c.in-Some.is (lt-ltb (current_ceiling mid.stack) (level mid.plan.now j.task.0) (omega (arith, t, l, k))))

pub returns-in_default-clause-choice : goal.returns-in_default-clause-choice
returns-in_default-clause-choice c =
    let mid = c.release_to.new.self in
    let e = c.release_to.ensures in
    let j = c.in-Some.job in
    let t = c.if-level-ceiling.false in
    let l : c.level.result ≡ level mid.plan.now j.task.0 = c.level.ensures ∙ ap (λ (p : PlanModel). level p j.task.0) e.jobs.levels in
    let k = c.ceiling.ensures in
    choice_before c.args.self.now mid c.args.tick e.others e.ready c.top-running.result (λ log told.
    choose_risen mid c.args.tick c.top-running.result log e.jobs c.top-running.ensures.first c.top-running.ensures.newest (ap (λ (m : ReadyModel). m.tick) e.ready) told j false c.in-Some.is (le-ltb (current_ceiling mid.stack) (level mid.plan.now j.task.0) (omega (arith, t, l, k))))

pub returns-in_default-clause-states : goal.returns-in_default-clause-states
returns-in_default-clause-states c = states_before c.args.self.now c.release_to.new.self c.args.tick c.release_to.ensures.others c.release_to.ensures.ready c.top-running.result c.release_to.ensures.jobs c.top-running.ensures.newest

pub returns-in_default-2-clause-choice : goal.returns-in_default-2-clause-choice
returns-in_default-2-clause-choice c =
    let mid = c.release_to.new.self in
    let e = c.release_to.ensures in
    choice_before c.args.self.now mid c.args.tick e.others e.ready c.top-running.result (λ log told.
    choose_unrisen mid c.args.tick c.top-running.result log e.jobs c.top-running.ensures.first c.top-running.ensures.newest (ap (λ (m : ReadyModel). m.tick) e.ready) told c.in_default.is)
