use Rattle.msrp_plan.proofs.Common.{arith, flat_map, no_task, wrote-nothing}
use Rattle.msrp_text.specs.PlanText.{records_text, task_records}
use Rattle.msrp_text.proofs.Written.{wrote-all, wrote-some}
use Rattle.msrp_text.proofs.writing.write_tasks.Goals as goal

pub loop-task-init : goal.loop-task-init
loop-task-init g c = wrote-nothing _ _

pub loop-task-preserved : goal.loop-task-preserved
loop-task-preserved g c = wrote-some _ _ _ _ (task_records c.args.plan.now) c.args.plan.now.tasks c.loop-task.task no_task (omega (arith, c.tasks-task-end.ensures.value)) c.loop-task.invariant c.write_task.ensures

pub returns : goal.returns
returns g c = wrote-all _ _ _ (λ tasks. records_text (flat_map (task_records c.args.plan.now) tasks)) c.args.plan.now.tasks c.loop-task.task (omega (arith, c.tasks-task-end.ensures.value)) c.loop-task.invariant
