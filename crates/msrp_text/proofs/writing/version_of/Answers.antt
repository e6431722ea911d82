use Rattle.std.proofs.Common.{◌∙◌}
use Rattle.msrp_plan.proofs.Common.{refl, sym, arith, or_from, take_all, list_any_more, TaskModel, no_task, task_at, is_listed}
use Rattle.msrp_text.proofs.Written.{not_listed}
use Rattle.msrp_text.proofs.writing.version_of.Goals as goal

pub loop-task-init : goal.loop-task-init
loop-task-init c = refl

pub loop-task-preserved : goal.loop-task-preserved
loop-task-preserved c =
    let task = task_at c.args.plan.now c.loop-task.task in
    let none = not_listed task.times _ _ (sym c.times.ensures.times ∙ c.in_default.is) in
    list_any_more (λ (u : TaskModel). is_listed u.times) c.args.plan.now.tasks c.loop-task.task no_task (omega (arith, c.tasks-task-end.ensures.value)) ∙ or_from _ _ c.loop-task.invariant none

pub returns : goal.returns
returns c =
    let all = take_all c.loop-task.task c.args.plan.now.tasks (omega (arith, c.tasks-task-end.ensures.value)) in
    let none = rw all at c.loop-task.invariant in
    rw none refl
