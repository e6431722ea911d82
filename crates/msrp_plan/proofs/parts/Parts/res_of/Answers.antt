use Rattle.msrp_plan.specs.Common.{string_bytes, bytes_eq}
use Rattle.std.proofs.Common.{sym, ◌∙◌}
use Rattle.msrp_plan.proofs.Building.Stored.{position_map}
use Rattle.msrp_plan.proofs.parts.Parts.res_of.Goals as goal

pub returns-in-Some : goal.returns-in-Some
returns-in-Some c = sym c.in-Some.is ∙ c.get_index_of.ensures.index ∙ sym (position_map (bytes_eq c.args.name.now) string_bytes c.args.self.now.resources.keys)

pub returns-in-None : goal.returns-in-None
returns-in-None c = sym c.in-None.is ∙ c.get_index_of.ensures.index ∙ sym (position_map (bytes_eq c.args.name.now) string_bytes c.args.self.now.resources.keys)
