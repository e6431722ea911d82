use Rattle.std.proofs.Common.{◌∙◌}
use Rattle.msrp_plan.proofs.Building.Stored.{has_task}
use Rattle.msrp_plan.proofs.builder.PlanBuilder.has_task.Goals as goal

pub returns : goal.returns
returns c = rw (← c.self.view_is) (c.contains_key.ensures ∙ has_task c.self.inside.parts.tasks.entries c.args.name.now)
