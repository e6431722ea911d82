use Rattle.msrp_plan.specs.Common.{length, flat_map, range_with_len, jobs_of}
use Rattle.std.proofs.Common.{◌≡◌, ◌∙◌, refl, ap, arith}
use Rattle.std.proofs.lemmas.List.{length-append, length-map}
use Rattle.msrp_plan.specs.Inside.Tasks.{task_view}
use Rattle.msrp_plan.specs.Inside.Views.{draft_view}
use Rattle.msrp_plan.proofs.Lists.Ranges.{flat_more}
use Rattle.msrp_plan.proofs.builder.PlanBuilder.all_jobs.Goals as goal

pub loop-task-init : goal.loop-task-init
loop-task-init c = record { sum = refl; bound = omega arith }

pub overflow_add-count : goal.overflow_add-count
overflow_add-count c =
    let size = length-map c.self.inside.parts.tasks.entries task_view in
    omega (arith, size, c.self.invariant.draft.tasks, c.len-task-end.ensures.len, c.loop-task-test.true, c.loop-task.invariant.bound, c.jobs-count.ensures.bound)

pub loop-task-preserved : goal.loop-task-preserved
loop-task-preserved c = record {
  sum =
      let jobs = jobs_of c.args.self.now in
      let more = ap length (flat_more jobs c.loop-task.task) ∙ length-append (flat_map jobs (range_with_len 0 c.loop-task.task)) (jobs c.loop-task.task) in
      omega (arith, more, c.loop-task.invariant.sum, c.jobs-count.ensures.value);
  bound = omega (arith, c.loop-task.invariant.bound, c.jobs-count.ensures.bound);
}

pub returns : goal.returns
returns c =
    let plan = draft_view c.self.inside in
    let size = length-map c.self.inside.parts.tasks.entries task_view in
    let sum = rw (← c.self.view_is) at c.loop-task.invariant.sum in
    let all : c.loop-task.task ≡ length plan.tasks = omega (arith, size, c.len-task-end.ensures.len, c.loop-task-test.false, c.loop-task.auto.task-end) in
    rw (← c.self.view_is) (sum ∙ ap (λ n. length (flat_map (jobs_of plan) (range_with_len 0 n))) all)
