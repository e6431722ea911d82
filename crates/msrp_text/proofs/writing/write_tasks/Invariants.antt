use Rattle.msrp_plan.proofs.Common.{take, flat_map, Wrote}
use Rattle.msrp_text.specs.PlanText.{records_text, task_records}
use Rattle.msrp_text.proofs.writing.write_tasks.Given as goal

abbrev pub invariant-loop-task : goal.invariant-loop-task
invariant-loop-task g l = Wrote g.W.Write.contents l.fn.out l.out (records_text (flat_map (task_records l.plan) (take l.task l.plan.tasks)))
