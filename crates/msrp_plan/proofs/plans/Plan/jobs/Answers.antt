use Rattle.msrp_plan.specs.Common.{ℕ, nat_lt, length, map, range_with_len, IsSomeAnd, PlanModel, TaskModel, task_at, release_tick, job_at, jobs_of}
use Rattle.std.proofs.Common.{◌≡◌, ◌<◌, ap, sym, subst, ◌∙◌}
use Rattle.std.proofs.lemmas.Bool.{lt-ltb}
use Rattle.msrp_plan.specs.Inside.Tasks.{comes_before}
use Rattle.msrp_plan.proofs.Jobs.Releases.{before_is, first_jobs, job_count}
use Rattle.msrp_plan.proofs.plans.Plan.jobs.Goals as goal

-- a release comes before the last tick has passed where its number is below the result
early : (c : goal.After-count_before) → (k : ℕ) → comes_before (task_at c.args.self.now c.args.task.0).times c.args.self.now.ticks k ≡ nat_lt k c.count_before.result
early c = λ k.
    let ticks : c.self.inside.parts.ticks ≡ c.args.self.now.ticks = ap (λ (p : PlanModel). p.ticks) c.self.view_is in
    sym (ap (λ (t : TaskModel). comes_before t.times c.args.self.now.ticks k) c.named_task.ensures.stored) ∙ rw (← ticks) (c.count_before.ensures k)

count : (c : goal.After-count_before) → length (jobs_of c.args.self.now c.args.task.0) ≡ c.count_before.result
count c = (job_count c.args.self.now c.args.task.0 c.count_before.result c.named_task.ensures.numbers.times (early c)).0

pub returns-clause-count : goal.returns-clause-count
returns-clause-count c = sym (count c)

pub returns-clause-numbered : goal.returns-clause-numbered
returns-clause-numbered c =
    first_jobs c.args.self.now c.args.task.0 c.named_task.ensures.numbers.times ∙ ap (λ n. map (job_at c.args.task.0) (range_with_len 0 n)) (count c)

pub returns-clause-released : goal.returns-clause-released
returns-clause-released c = λ k within.
    let plan : PlanModel = c.args.self.now in
    let early = before_is (release_tick plan (job_at c.args.task.0 k)) plan.ticks (early c k ∙ lt-ltb k c.count_before.result within) in
    subst (λ o. IsSomeAnd o (λ tick. tick < plan.ticks)) (sym early.1.0) early.1.1
