use Rattle.std.proofs.Common.{◌≡◌, ◌+◌, ◌-◌, ◌==◌, ◌∙◌}
use Rattle.msrp_plan.proofs.Common.{ℕ, cond, map, max, length, rules, Some, ap, sym, subst, arith, eq-eqb, range_with_len, task_at, greatest, wait_bound, units_lock, not_equal}
use Rattle.msrp_plan.specs.declared.units.Op.TheVariants.{Run}
use Rattle.msrp_plan.proofs.Blocking.SectionRows.{spent}
use Rattle.msrp_plan.proofs.TaskUnits.PlanUnits.{units_balance}
use Rattle.msrp_levels.proofs.HeldUnits.{held_last, held_step}
use Rattle.msrp_levels.proofs.OutermostRows.{IsPassed, passed_first, passed_step, passed_work}
use Rattle.msrp_levels.proofs.outermost.out_of.Goals as goal
use Rattle.msrp_levels.proofs.outermost.out_of.Goals.{then-held-eq0, else-held-eq0}

pub loop-place-init : goal.loop-place-init
loop-place-init c = passed_first c.args.plan.now (task_at c.args.plan.now c.args.task.0)

pub loop-place-preserved-then-eq : goal.loop-place-preserved-then-eq
loop-place-preserved-then-eq c =
    let plan = c.args.plan.now in
    let work : c.unit-unit.result ≡ Run = search rules in
    passed_work plan (task_at plan c.args.task.0) c.loop-place.place c.loop-place.held c.loop-place.rows c.loop-place.last c.loop-place.longest (units_lock plan c.requires.plan c.args.task.0) (c.unit-unit.ensures ∙ ap Some work) c.loop-place.invariant

pub held_with-held-requires : goal.held_with-held-requires
held_with-held-requires c =
    let plan = c.args.plan.now in
    (held_step plan (task_at plan c.args.task.0).units c.loop-place.place c.loop-place.held c.unit-unit.result (units_lock plan c.requires.plan c.args.task.0) c.unit-unit.ensures c.loop-place.invariant.counted.holds).0

pub loop-place-preserved : goal.loop-place-preserved
loop-place-preserved c =
    let plan = c.args.plan.now in
    let task = task_at plan c.args.task.0 in
    let place = c.loop-place.place in
    let wait = c.wait_of.ensures.value ∙ ap (λ k. wait_bound plan k (Some c.unit-unit.result)) c.core_of-core.ensures in
    let own = c.loop-place.rows + (place - c.loop-place.last) in
    let rows : c.if-held-eq0.rows ≡ cond (c.loop-place.held == 0) 0 own = elim c.if-held-eq0.branch [
      | then-held-eq0 w ↦ w.rows-is ∙ sym (ap (λ b. cond b 0 own) (eq-eqb c.loop-place.held 0 w.if-held-eq0.true))
      | else-held-eq0 w ↦ w.rows-is ∙ sym (ap (λ b. cond b 0 own) (not_equal c.loop-place.held 0 w.if-held-eq0.false))
    ] in
    let step = passed_step plan task place c.loop-place.held c.loop-place.rows c.loop-place.last c.loop-place.longest c.wait_of.result (c.if-held-eq0.rows + c.wait_of.result) c.unit-unit.result (units_lock plan c.requires.plan c.args.task.0) c.unit-unit.ensures wait c.wait_of.ensures.small
    (ap (λ k. k + c.wait_of.result) rows) c.loop-place.invariant in
    let held = subst (λ (k : ℕ). IsPassed plan task (place + 1) k (c.if-held-eq0.rows + c.wait_of.result) place (max c.loop-place.longest (c.if-held-eq0.rows + c.wait_of.result))) (sym c.held_with-held.ensures) step in
    subst (λ (k : ℕ). IsPassed plan task (place + 1) c.held_with-held.result (c.if-held-eq0.rows + c.wait_of.result) place k) (sym c.max-longest.ensures) held

pub returns : goal.returns
returns c =
    let plan = c.args.plan.now in
    let task = task_at plan c.args.task.0 in
    let h = c.loop-place.invariant in
    let end : c.loop-place.place ≡ length task.units = omega (arith, c.loop-place-test.false, c.loop-place.auto.place-end, c.units-place-end.ensures) in
    let none = held_last task.units c.loop-place.place c.loop-place.held end (units_balance plan c.requires.plan c.args.task.0) h.counted.holds in
    sym (h.closed none) ∙ (h.counted.most ∙ ap (λ n. greatest (map (λ a. spent plan task a n) (range_with_len 0 n))) end)
