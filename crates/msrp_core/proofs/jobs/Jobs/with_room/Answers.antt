use Rattle.std.proofs.Common.{◌≡◌, ◌≤◌, ◌∙◌}
use Rattle.msrp_plan.proofs.Common.{arith, ap, subst, refl, rules, length, vec_capacity, [], jobs_on, IsPlan}
use Rattle.msrp_core.proofs.Common.{ReadyModel}
use Rattle.msrp_core.proofs.Running.{none_fits}
use Rattle.msrp_core.proofs.jobs.Jobs.with_room.Goals as goal

pub returns-clause-jobs : goal.returns-clause-jobs
returns-clause-jobs c =
    let ready = c.in_ok-ready.ensures in
    let stack = c.in_ok-stack.ensures in
    let empty : c.in_ok-below.below.items ≡ [] = search rules in
    let room : length (jobs_on c.args.plan.now c.args.core.0) ≤ vec_capacity c.in_ok-below.below =
    (let exact : vec_capacity c.in_ok-below.below ≡ c.jobs_on.result = search rules in let n = c.jobs_on.ensures.count in omega (arith, exact, n)) in
    none_fits (record { plan = c.args.plan; levels = c.args.levels; core = c.args.core; phase = _; ready = c.in_ok-ready.ready; stack = c.in_ok-stack.stack; progress = 0; below = c.in_ok-below.below; rising = _; units = _ })
    (subst IsPlan (ap (λ (m : ReadyModel). m.plan) c.ready.view_is ∙ ap (λ (m : ReadyModel). m.plan) ready) c.ready.invariant.0.accepted) c.requires.levels ready stack empty room refl refl
