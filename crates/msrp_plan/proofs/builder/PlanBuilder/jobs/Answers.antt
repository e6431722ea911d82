use Rattle.msrp_plan.specs.Common.{ℕ, nat_lt, length, TaskModel, task_at, jobs_of, AreTimes}
use Rattle.std.proofs.Common.{◌≡◌, ◌≤◌, ◌∙◌, ap, sym, subst, arith}
use Rattle.msrp_plan.specs.Inside.Tasks.{comes_before}
use Rattle.msrp_plan.specs.Inside.Views.{draft_view}
use Rattle.msrp_plan.proofs.Building.Stored.{view_at}
use Rattle.msrp_plan.proofs.Jobs.Releases.{job_count}
use Rattle.msrp_plan.proofs.builder.PlanBuilder.jobs.Goals as goal

pub count_before-requires : goal.count_before-requires
count_before-requires c =
    let within = rw (← c.self.view_is) at c.requires in
    let at = view_at c.self.inside.parts.tasks.entries c.args.task c.index.result.now c.index.ensures in
    subst (λ (t : TaskModel). AreTimes t.times) at.1 (c.self.invariant.draft.each c.args.task within).times

-- the number of the task's jobs
counted : (c : goal.After-count_before) → (length (jobs_of (draft_view c.self.inside) c.args.task) ≡ c.count_before.result) × (c.count_before.result ≤ c.self.inside.parts.ticks)
counted c =
    let plan = draft_view c.self.inside in
    let within = rw (← c.self.view_is) at c.requires in
    let at = view_at c.self.inside.parts.tasks.entries c.args.task c.index.result.now c.index.ensures in
    let tests : (k : ℕ) → comes_before (task_at plan c.args.task).times plan.ticks k ≡ nat_lt k c.count_before.result =
    λ k. ap (λ (t : TaskModel). comes_before t.times plan.ticks k) at.1 ∙ c.count_before.ensures k in
    job_count plan c.args.task c.count_before.result (c.self.invariant.draft.each c.args.task within).times tests

pub returns-clause-value : goal.returns-clause-value
returns-clause-value c = rw (← c.self.view_is) (sym (counted c).0)

pub returns-clause-bound : goal.returns-clause-bound
returns-clause-bound c = omega (arith, (counted c).1, c.self.invariant.draft.ticks.1)
