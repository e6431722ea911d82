use Rattle.std.proofs.Common.{◌≡◌}
use Rattle.msrp_plan.proofs.Common.{[], map, refl, sym, subst, arith, rules, jobs_on, state_after}
use Rattle.msrp_core.proofs.Common.{ReadyModel, active_in, state_in}
use Rattle.msrp_core.proofs.machine.Machine.with_room.Goals as goal

pub invariant_of-result : goal.invariant_of-result
invariant_of-result c =
    let jobs = c.in_ok-jobs.jobs in
    let js = jobs_on jobs.plan.now jobs.core.0 in
    record {
      jobs_fit = c.in_ok-jobs.ensures.jobs;
      released = search rules;
      log = [];
      stands = record {
        tick = refl;
        phase = c.in_ok-jobs.ensures.phase;
        states = subst (λ (r : ReadyModel). map (state_in jobs.plan.now r.taken jobs.phase (active_in jobs)) js ≡ map (state_after []) js) (sym c.in_ok-jobs.ensures.ready) (subst (λ p. map (state_in jobs.plan.now [] p (active_in jobs)) js ≡ map (state_after []) js) (sym c.in_ok-jobs.ensures.phase) refl);
      };
      repeats = λ some. absurd (omega (arith, some));
      spins = search rules;
      apart = λ _. refl;
    }
