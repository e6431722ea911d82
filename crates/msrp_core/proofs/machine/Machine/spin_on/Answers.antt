use Rattle.std.proofs.Common.{◌+◌, ◌≡◌, ◌∙◌}
use Rattle.msrp_plan.proofs.Common.{Some, ap, refl, sym, subst, none-some, same_Some}
use Rattle.msrp_core.proofs.Common.{CoreId, Inside, IsMachineTurn, IsRefused, MachineModel, Polls, machine_view, spin_again}
use Rattle.msrp_core.proofs.Repeating.{awaits_global, can_spin, is_spin, polls_on, repeats_only, row_spins, stands_spins, view_spins}
use Rattle.msrp_core.proofs.machine.Machine.spin_on.Goals as goal

pub spin-requires-clause-can : goal.spin-requires-clause-can
spin-requires-clause-can c =
    let p = c.in_ok-poll.poll in
    can_spin c.self.inside c.self.invariant.jobs_fit p (c.self.invariant.spins p c.in_ok-poll.was)

pub spin-requires-clause-awaits : goal.spin-requires-clause-awaits
spin-requires-clause-awaits c = (c.self.invariant.spins c.in_ok-poll.poll c.in_ok-poll.was).awaits

pub invariant_of-self : goal.invariant_of-self
invariant_of-self c =
    let p = c.in_ok-poll.poll in
    let e = c.spin.ensures in
    view_spins c.self.inside c.self.invariant.jobs_fit p (c.self.invariant.spins p c.in_ok-poll.was) c.spin.result e.acts c.in_ok-poll.was e.kind e.res c.self.invariant.released c.self.invariant.apart

pub returns-clause-known : goal.returns-clause-known
returns-clause-known c =
    let m = c.self.inside in
    let p = c.in_ok-poll.poll in
    let e = c.spin.ensures in
    subst (λ (x : MachineModel). Some c.spin.result ≡ x.spin) c.self.view_is
    (ap (λ r. Some r) (is_spin c.spin.result m.tick m.jobs.core p e.acts.row_tick e.acts.row_core e.kind e.acts.row_job e.res) ∙ sym (ap (spin_again m.tick m.jobs.core) c.in_ok-poll.was))

pub returns-clause-spin : goal.returns-clause-spin
returns-clause-spin c =
    let p = c.in_ok-poll.poll in
    let e = c.spin.ensures in
    let s = c.self.invariant.spins p c.in_ok-poll.was in
    subst (λ (m : MachineModel). IsRefused m c.spin.result) c.self.view_is
    (record { core = ap (λ (k : CoreId). k.0) e.acts.row_core; res = p.res; awaits = s.awaits; global = awaits_global c.self.inside c.self.invariant.jobs_fit p s; resource = e.res; kind = e.kind; ahead = e.ahead })

pub returns-clause-turn : goal.returns-clause-turn
returns-clause-turn c =
    let m = c.self.inside in
    let p = c.in_ok-poll.poll in
    let e = c.spin.ensures in
    let s = c.self.invariant.spins p c.in_ok-poll.was in
    let after : Inside = record m { tick = m.tick + 1 } in
    let polls = polls_on m c.self.invariant.jobs_fit p s c.spin.result e.acts e.kind e.res in
    subst (λ (old : MachineModel). IsMachineTurn old (machine_view after) c.spin.result) c.self.view_is
    (record {
      plan = refl;
      core = refl;
      tick = refl;
      row = row_spins m c.self.invariant.jobs_fit p s c.spin.result e.acts;
      stands = stands_spins m c.self.invariant.jobs_fit p s c.spin.result e.acts;
      again = repeats_only after c.spin.result (λ some. absurd (none-some p (sym (c.self.invariant.apart some) ∙ c.in_ok-poll.was))) (λ q h. subst (Polls m.jobs c.spin.result) (same_Some p q (sym c.in_ok-poll.was ∙ h)) polls) e.acts.row_core;
    })
