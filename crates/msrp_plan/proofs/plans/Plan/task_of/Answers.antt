use Rattle.std.proofs.Common.{sym, ◌∙◌}
use Rattle.msrp_plan.proofs.Building.Stored.{task_position}
use Rattle.msrp_plan.proofs.plans.Plan.task_of.Goals as goal

pub returns-in-Some : goal.returns-in-Some
returns-in-Some c = rw (← c.self.view_is) (sym c.in-Some.is ∙ c.get_index_of.ensures.index ∙ task_position c.self.inside.parts.tasks.entries c.args.name.now)

pub returns-in-None : goal.returns-in-None
returns-in-None c = rw (← c.self.view_is) (sym c.in-None.is ∙ c.get_index_of.ensures.index ∙ task_position c.self.inside.parts.tasks.entries c.args.name.now)
