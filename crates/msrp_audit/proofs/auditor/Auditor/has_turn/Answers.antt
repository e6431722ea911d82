use Rattle.std.proofs.Common.{◌≡◌, ◌≤◌, ◌+◌, ◌*◌, ◌<◌, ◌==◌, ◌∙◌}
use Rattle.msrp_plan.proofs.Common.{List, None, Some, arith, length, refl, ap, sym, subst, eqb-true, PlanModel}
use Rattle.msrp_plan.specs.declared.rows.Row.{Row as TraceRow}
use Rattle.msrp_audit.specs.Audits.{AuditorModel, HasFed, IsDueInAudit, has_turn, place_in}
use Rattle.msrp_audit.proofs.Judging.{due_is, due_told, has_turn_is, left_in, place_low, tick_left, tick_now}
use Rattle.msrp_audit.proofs.auditor.Auditor.has_turn.Goals as goal

pub returns-clause-due : goal.returns-clause-due
returns-clause-due c = λ e.
    let at = c.self.inside in
    let plan = at.plan.now in
    let i = c.self.invariant in
    let low = place_low at i in
    let ticks = i.accepted.draft.ticks.1 in
    let most : c.tick.result ≤ plan.ticks = subst (λ (p : PlanModel). c.tick.result ≤ p.ticks) i.same c.tick.ensures.most in
    let is = due_told at.fault at.tick plan.ticks c.tick.result (omega (arith, most, ticks)) (eqb-true c.tick.result at.due e ∙ i.due) in
    subst (λ (b : AuditorModel). IsDueInAudit b c.args.core.0) c.self.view_is
    (record {
      fault = is.0;
      core = subst (λ (b : AuditorModel). c.args.core.0 < b.plan.cores) (sym c.self.view_is) c.requires;
      left = left_in at.tick plan.cores (place_in at) plan.ticks low is.1;
      tick = c.tick.ensures.now ∙ ap (λ n. Some n) (is.2 ∙ tick_now at.tick plan.cores (place_in at) (at.tick * plan.cores + place_in at) low refl);
    })

pub returns-clause-answer : goal.returns-clause-answer
returns-clause-answer c =
    let at = c.self.inside in
    let plan = at.plan.now in
    let i = c.self.invariant in
    let low : c.args.core.0 < plan.cores = subst (λ (b : AuditorModel). c.args.core.0 < b.plan.cores) (sym c.self.view_is) c.requires in
    let P : AuditorModel → Type 0 = λ b. (rows : List TraceRow) → HasFed b rows → b.fault ≡ None → length rows < b.plan.cores * b.plan.ticks → (c.tick.result == at.due) ≡ has_turn b.plan rows c.args.core.0 in
    subst P c.self.view_is (λ rows fed none left.
    let here = tick_left at.tick plan.cores (place_in at) plan.ticks (subst (λ n. n < plan.cores * plan.ticks) (sym (fed.count none)) left) in
    ap (λ n. c.tick.result == n) (i.due ∙ due_is at.fault at.tick plan.ticks none here)
    ∙ has_turn_is at.cores plan rows c.args.core.0 at.tick c.tick.result i.same i.accepted (fed.stand none) (tick_now at.tick plan.cores (place_in at) (length rows) (place_low at i) (fed.count none)) low c.tick.ensures.now)
