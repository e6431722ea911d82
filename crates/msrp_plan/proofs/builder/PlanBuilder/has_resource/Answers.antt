use Rattle.msrp_plan.specs.Common.{string_bytes, bytes_eq}
use Rattle.std.proofs.Common.{sym, ◌∙◌}
use Rattle.msrp_plan.proofs.builder.PlanBuilder.has_resource.Goals as goal
use Rattle.msrp_plan.proofs.Lists.Filters.{any_map}

pub returns : goal.returns
returns c = rw (← c.self.view_is) (c.contains.ensures ∙ sym (any_map string_bytes (bytes_eq c.args.name.now) c.self.inside.parts.resources.keys))
