use Rattle.msrp_plan.specs.Common.{TaskModel, task_at}
use Rattle.std.proofs.Common.{◌≡◌, ◌+◌, ◌&&◌, refl, ap, sym, subst, ◌∙◌, arith}
use Rattle.std.proofs.lemmas.Option.{get_or_from_slice_get, slice_get_within}
use Rattle.msrp_plan.specs.Inside.Marks.{holds_one_after, locks_one}
use Rattle.msrp_plan.specs.Inside.Views.{draft_view}
use Rattle.msrp_plan.proofs.Building.Stored.{view_at}
use Rattle.msrp_plan.proofs.Building.Scan.{IsScanned, scan_ends, scan_finds, scan_on}
use Rattle.msrp_plan.proofs.builder.PlanBuilder.nests_global.Goals as goal

pub loop-place-init : goal.loop-place-init
loop-place-init c = record { none = refl; held = refl }

pub returns-then-is_nested_lock : goal.returns-then-is_nested_lock
returns-then-is_nested_lock c =
    let plan = draft_view c.self.inside in
    let task = rw (← c.self.view_is) at c.requires.task in
    let globals = rw (← c.self.view_is) at c.requires.globals in
    let scanned = rw (← c.self.view_is) at c.loop-place.invariant in
    let us = task_at plan c.args.task in
    let same : us.units ≡ c.lent_units-units.result = ap (λ (t : TaskModel). t.units) (view_at c.self.inside.parts.tasks.entries c.args.task c.index.result.now c.index.ensures).1 ∙ sym c.lent_units-units.ensures in
    let nested = (c.self.invariant.draft.locking c.args.task task).nested in
    let n = c.loop-place.place in
    let u = c.unit-unit.result in
    let within = slice_get_within c.lent_units-units.result n u c.unit-unit.ensures in
    let at = get_or_from_slice_get c.lent_units-units.result n u u c.unit-unit.ensures in
    let found = ap (λ o. locks_one c.args.globals.now o && c.loop-place.holding) at ∙ (sym c.is_nested_lock.ensures ∙ c.if-is_nested_lock.true) in
    rw (← c.self.view_is) (sym (scan_finds plan us.units c.lent_units-units.result same nested c.args.globals.now globals n u c.loop-place.holding within scanned found))

pub loop-place-preserved : goal.loop-place-preserved
loop-place-preserved c =
    let plan = draft_view c.self.inside in
    let task = rw (← c.self.view_is) at c.requires.task in
    let globals = rw (← c.self.view_is) at c.requires.globals in
    let scanned = rw (← c.self.view_is) at c.loop-place.invariant in
    let us = task_at plan c.args.task in
    let same : us.units ≡ c.lent_units-units.result = ap (λ (t : TaskModel). t.units) (view_at c.self.inside.parts.tasks.entries c.args.task c.index.result.now c.index.ensures).1 ∙ sym c.lent_units-units.ensures in
    let nested = (c.self.invariant.draft.locking c.args.task task).nested in
    let n = c.loop-place.place in
    let u = c.unit-unit.result in
    let within = slice_get_within c.lent_units-units.result n u c.unit-unit.ensures in
    let at = get_or_from_slice_get c.lent_units-units.result n u u c.unit-unit.ensures in
    let flat = ap (λ o. locks_one c.args.globals.now o && c.loop-place.holding) at ∙ (sym c.is_nested_lock.ensures ∙ c.if-is_nested_lock.false) in
    let on = subst (λ o. IsScanned plan us.units (n + 1) (holds_one_after c.args.globals.now c.loop-place.holding o)) at
    (scan_on plan us.units c.lent_units-units.result same nested c.args.globals.now globals n u c.loop-place.holding within scanned flat) in
    rw (← c.self.view_is, c.holds_global_after-holding.ensures) on

pub returns : goal.returns
returns c =
    let plan = draft_view c.self.inside in
    let task = rw (← c.self.view_is) at c.requires.task in
    let globals = rw (← c.self.view_is) at c.requires.globals in
    let scanned = rw (← c.self.view_is) at c.loop-place.invariant in
    let us = task_at plan c.args.task in
    let same : us.units ≡ c.lent_units-units.result = ap (λ (t : TaskModel). t.units) (view_at c.self.inside.parts.tasks.entries c.args.task c.index.result.now c.index.ensures).1 ∙ sym c.lent_units-units.ensures in
    let nested = (c.self.invariant.draft.locking c.args.task task).nested in
    let size = c.len-place-end.ensures in
    let most = c.loop-place.auto.place-end in
    let past = c.loop-place-test.false in
    rw (← c.self.view_is) (sym (scan_ends plan us.units c.lent_units-units.result same nested c.args.globals.now globals c.loop-place.place c.loop-place.holding (omega (arith, size, most)) (omega (arith, size, past)) scanned))
