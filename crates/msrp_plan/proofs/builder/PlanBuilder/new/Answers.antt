use Rattle.std.proofs.Common.{sym, ◌∙◌}
use Rattle.msrp_plan.proofs.Building.Drafts.{growing_none}
use Rattle.msrp_plan.proofs.builder.PlanBuilder.new.Goals as goal

pub invariant_of-result : goal.invariant_of-result
invariant_of-result c = rw (c.new.ensures.empty, c.new-2.ensures.empty, c.new-3.ensures.items) (growing_none c.args.cores c.args.ticks (sym c.new_fault.ensures ∙ c.in_default.is))
