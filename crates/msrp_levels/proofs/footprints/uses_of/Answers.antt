use Rattle.std.proofs.Common.{◌≡◌, ◌+◌, ◌-◌, ◌∙◌}
use Rattle.msrp_plan.proofs.Common.{List, sym, subst, ap, arith, task_at, units_lock}
use Rattle.msrp_levels.specs.Footprints.{CanPass, passed, uses_from}
use Rattle.msrp_levels.specs.declared.footprints.Use.{Use}
use Rattle.msrp_levels.proofs.PassedUnits.{uses_behind, pass_unit, can_pass}
use Rattle.msrp_levels.proofs.footprints.uses_of.Goals as goal

pub loop-place-init : goal.loop-place-init
loop-place-init c = uses_behind (task_at c.args.plan.now c.args.task.0).units c.units-units.result c.units-units.ensures

pub pass-requires : goal.pass-requires
pass-requires c =
    let plan = c.args.plan.now in
    let us = (task_at plan c.args.task.0).units in
    let place = c.loop-place.place - 1 in
    let next : c.loop-place.place ≡ place + 1 = omega arith in
    let uses = c.loop-place.invariant ∙ ap (uses_from us) next in
    let can = can_pass us place c.unit.result plan c.requires.plan.draft.resources (omega arith) (units_lock plan c.requires.plan c.args.task.0) c.unit.ensures in
    subst (λ (xs : List Use). CanPass place c.unit.result xs) (sym uses) can

pub loop-place-preserved : goal.loop-place-preserved
loop-place-preserved c =
    let plan = c.args.plan.now in
    let us = (task_at plan c.args.task.0).units in
    let place = c.loop-place.place - 1 in
    let next : c.loop-place.place ≡ place + 1 = omega arith in
    let uses = c.loop-place.invariant ∙ ap (uses_from us) next in
    c.pass.ensures ∙ (ap (passed place c.unit.result) uses ∙ pass_unit us place c.unit.result plan c.requires.plan.draft.resources (units_lock plan c.requires.plan c.args.task.0) c.unit.ensures)
