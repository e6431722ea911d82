use Rattle.std.proofs.Common.{◌∙◌}
use Rattle.msrp_plan.proofs.Common.{ap, sym, task_at, wrote-more}
use Rattle.msrp_text.proofs.Written.{of_a_list, wrote-as}
use Rattle.msrp_text.specs.PlanText.{record_text}
use Rattle.msrp_text.proofs.writing.write_times.Goals as goal

pub returns-in-Listed : goal.returns-in-Listed
returns-in-Listed g c =
    let task = task_at c.args.plan.now c.args.task.0 in
    let same = of_a_list task task.times _ (sym c.times.ensures.times ∙ c.in-Listed.is) in
    wrote-more _ _ _ _ _ _ (wrote-as _ _ _ _ _ (ap record_text same) c.write_listed.ensures) c.write_releases.ensures
