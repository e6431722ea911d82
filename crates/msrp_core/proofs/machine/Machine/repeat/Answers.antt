use Rattle.std.proofs.Common.{◌<◌, ◌+◌, ◌-◌, ◌≡◌, ◌∙◌}
use Rattle.msrp_plan.proofs.Common.{Some, ap, refl, sym, subst, arith, none-some}
use Rattle.msrp_core.proofs.Common.{CoreId, Inside, IsMachineTurn, MachineModel, machine_view}
use Rattle.msrp_core.proofs.Repeating.{can_less, known_row, repeats_only, row_next, stands_next, view_next}
use Rattle.msrp_core.proofs.Turning.{acts_core, acts_job, acts_tick, core_after, plan_after}
use Rattle.msrp_core.proofs.machine.Machine.repeat.Goals as goal

pub overflow_add-self : goal.overflow_add-self
overflow_add-self c =
    let some : 0 < c.self.inside.again = let n = c.if-self-eq0.false in omega (arith, n) in
    let left = (c.self.invariant.repeats some).left in
    let few = c.self.invariant.jobs_fit.accepted.draft.ticks.1 in
    omega (arith, some, left, few)

pub act_again-requires-clause-can : goal.act_again-requires-clause-can
act_again-requires-clause-can c =
    let some : 0 < c.self.inside.again = let n = c.if-self-eq0.false in omega (arith, n) in
    let r = c.self.invariant.repeats some in
    can_less c.self.inside.jobs r.row.kind c.self.inside.job c.self.inside.again 1 (omega (arith, some)) r.can

pub invariant_of-self : goal.invariant_of-self
invariant_of-self c =
    let some : 0 < c.self.inside.again = let n = c.if-self-eq0.false in omega (arith, n) in
    view_next c.self.inside c.self.invariant.jobs_fit (c.self.invariant.repeats some) some c.act_again.new.self c.act_again.result c.act_again.ensures.acts (c.self.invariant.apart some) c.act_again.ensures.kind c.act_again.ensures.left

pub returns-clause-known : goal.returns-clause-known
returns-clause-known c =
    let some : 0 < c.self.inside.again = let n = c.if-self-eq0.false in omega (arith, n) in
    let m = c.self.inside in
    let new = c.act_again.new.self in
    let row = c.act_again.result in
    let acts = c.act_again.ensures.acts in
    subst (λ (x : MachineModel). Some row ≡ x.again) c.self.view_is
    (known_row m row some (acts_tick m.jobs new m.job m.tick row acts) (acts_core m.jobs new m.job m.tick row acts) c.act_again.ensures.kind (acts_job m.jobs new m.job m.tick row acts))

pub returns-clause-turn : goal.returns-clause-turn
returns-clause-turn c =
    let m = c.self.inside in
    let new = c.act_again.new.self in
    let row = c.act_again.result in
    let acts = c.act_again.ensures.acts in
    let some : 0 < m.again = let n = c.if-self-eq0.false in omega (arith, n) in
    let after : Inside = record { tick = m.tick + 1; jobs = new; again = m.again - 1; job = m.job; poll = m.poll } in
    let core = acts_core m.jobs new m.job m.tick row acts ∙ sym (core_after m.jobs new m.job m.tick row acts) in
    subst (λ (old : MachineModel). IsMachineTurn old (machine_view after) row) c.self.view_is
    (record {
      plan = plan_after m.jobs new m.job m.tick row acts;
      core = ap (λ (k : CoreId). k.0) (core_after m.jobs new m.job m.tick row acts);
      tick = refl;
      row = row_next m c.self.invariant.jobs_fit (c.self.invariant.repeats some) some new row acts;
      stands = stands_next m c.self.invariant.jobs_fit (c.self.invariant.repeats some) some new row acts;
      again = repeats_only after row (λ _. (c.act_again.ensures.kind, acts_job m.jobs new m.job m.tick row acts)) (λ p e. absurd (none-some p (sym (c.self.invariant.apart some) ∙ e))) core;
    })

pub returns-clause-left : goal.returns-clause-left
returns-clause-left c =
    let some : 0 < c.self.inside.again = let n = c.if-self-eq0.false in omega (arith, n) in
    let left = (c.self.invariant.repeats some).left in
    subst (λ (m : MachineModel). m.tick < m.plan.ticks) c.self.view_is (omega (arith, some, left))
