use Rattle.std.proofs.Common.{◌∙◌, ◌&&◌}
use Rattle.msrp_plan.proofs.Common.{ap, sym, arith, list_any, uses, take_all}
use Rattle.msrp_system.specs.Inside.Views.{used_elsewhere}
use Rattle.msrp_system.proofs.GatheredTasks.{global_is}
use Rattle.msrp_system.proofs.tables.is_global.Goals as goal

pub returns : goal.returns
returns c =
    let plan = c.args.parts.now in
    let g = c.args.res.0 in
    sym (sym (global_is plan g) ∙ (sym (ap (list_any (λ a. uses g a && used_elsewhere g a.core plan.tasks)) (take_all c.loop-t.t plan.tasks (omega arith))) ∙ c.loop-t.invariant))
