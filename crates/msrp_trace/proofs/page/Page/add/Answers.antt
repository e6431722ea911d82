use Rattle.std.proofs.Common.{◌∙◌, ◌++◌}
use Rattle.msrp_plan.proofs.Common.{ap}
use Rattle.msrp_trace.proofs.Gathered.{gathers-on}
use Rattle.msrp_trace.proofs.page.Page.add.Goals as goal

pub returns : goal.returns
returns g c = gathers-on _ _ _ _ _ _ _ c.make_room.ensures.text (c.add_text.ensures.text ∙ ap (λ t. t ++ c.args.text.now) c.self.view_is)
