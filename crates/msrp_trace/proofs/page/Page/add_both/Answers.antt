use Rattle.std.proofs.Common.{◌∙◌, ◌++◌}
use Rattle.msrp_plan.proofs.Common.{ap, append_assoc}
use Rattle.msrp_trace.proofs.Gathered.{gathers-on}
use Rattle.msrp_trace.proofs.page.Page.add_both.Goals as goal

pub returns : goal.returns
returns g c =
    let first = c.add_text.ensures.text ∙ ap (λ t. t ++ c.args.first.now) c.self.view_is in
    let both = c.add_text-2.ensures.text ∙ (ap (λ t. t ++ c.args.second.now) first ∙ append_assoc c.make_room.new.self c.args.first.now c.args.second.now) in
    gathers-on _ _ _ _ _ _ _ c.make_room.ensures.text both
