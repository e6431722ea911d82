use Rattle.std.proofs.Common.{◌+◌, ◌++◌, ◌∷◌, ◌≡◌, ◌∙◌}
use Rattle.msrp_plan.proofs.Common.{[], sym, ap, subst, arith, refl, same_Some, jobs_on, IsCoreTurn, state_after}
use Rattle.msrp_core.proofs.Common.{MachineModel, ReadyModel, StandsAfter, machine_view, state_of}
use Rattle.msrp_core.proofs.Repeating.{apart_by, can_kind, repeats_by, repeats_only, row_by, spins_by, stands_by}
use Rattle.msrp_core.proofs.Turning.{acts_core, core_after, fits_after, ready_after, told_from}
use Rattle.msrp_core.proofs.machine.Machine.turn_anew.Goals as goal

pub repeats-self-inside-requires : goal.repeats-self-inside-requires
repeats-self-inside-requires g c = fits_after c.choose-chosen.new.self c.act_chosen-row.new.self c.choose-chosen.result c.self.inside.tick c.act_chosen-row.result c.choose-chosen.ensures.jobs c.act_chosen-row.ensures.acts

pub poll_of-self-inside-requires : goal.poll_of-self-inside-requires
poll_of-self-inside-requires g c = fits_after c.choose-chosen.new.self c.act_chosen-row.new.self c.choose-chosen.result c.self.inside.tick c.act_chosen-row.result c.choose-chosen.ensures.jobs c.act_chosen-row.ensures.acts

pub invariant_of-self : goal.invariant_of-self
invariant_of-self g c =
    let m = c.self.inside in
    let mid = c.choose-chosen.new.self in
    let new = c.act_chosen-row.new.self in
    let chosen = c.choose-chosen.result in
    let row = c.act_chosen-row.result in
    let e = c.choose-chosen.ensures in
    let acts = c.act_chosen-row.ensures.acts in
    let log = c.self.invariant.log in
    let stands = c.self.invariant.stands in
    let k = c.repeats-self-inside.result in
    let poll = c.poll_of-self-inside.result in
    let is = e.choice log (told_from (state_of m.jobs) (state_after log) (jobs_on m.jobs.plan.now m.jobs.core.0) stands.states) in
    record {
      jobs_fit = fits_after mid new chosen m.tick row e.jobs acts;
      released = λ x h. let t : m.tick ≡ x = same_Some m.tick x (sym (ap (λ (r : ReadyModel). r.tick) (ready_after mid new chosen m.tick row acts) ∙ e.tick) ∙ h) in omega (arith, t);
      log = log ++ row ∷ [];
      stands = stands_by m mid new chosen row e.jobs e.same e.running e.states acts k row.job poll log stands;
      repeats = λ some.
          repeats_by m mid new chosen row e.jobs e.same e.running e.states acts k m.tick poll log stands is e.tick (omega arith) some (c.repeats-self-inside.ensures.can some) (c.repeats-self-inside.ensures.within some)
          (λ t l. c.repeats-self-inside.ensures.quiet t some l);
      spins = λ p h. spins_by m mid new chosen row e.jobs e.same e.running e.states acts k row.job poll p log stands is (c.poll_of-self-inside.ensures p h);
      apart = λ some. apart_by new row row.job poll c.poll_of-self-inside.ensures (can_kind new row.kind row.job k (c.repeats-self-inside.ensures.can some));
    }

pub returns-clause-row : goal.returns-clause-row
returns-clause-row g c = λ log.
    let e = c.choose-chosen.ensures in
    let jobs = c.self.inside.jobs in
    subst (λ (m : MachineModel). StandsAfter m log → IsCoreTurn m.plan m.core log c.act_chosen-row.result) c.self.view_is (λ stands.
    row_by c.self.inside c.choose-chosen.new.self c.act_chosen-row.new.self c.choose-chosen.result c.act_chosen-row.result e.jobs e.same e.running e.states c.act_chosen-row.ensures.acts log stands
    (e.choice log (told_from (state_of jobs) (state_after log) (jobs_on jobs.plan.now jobs.core.0) stands.states)))

pub returns-clause-stands : goal.returns-clause-stands
returns-clause-stands g c = λ log.
    let e = c.choose-chosen.ensures in
    let P : MachineModel → Type 0 = λ m. StandsAfter m log → StandsAfter (machine_view (record { tick = c.self.inside.tick + 1; jobs = c.act_chosen-row.new.self; again = c.repeats-self-inside.result; job = c.act_chosen-row.result.job; poll = c.poll_of-self-inside.result })) (log ++ c.act_chosen-row.result ∷ []) in
    subst P c.self.view_is (stands_by c.self.inside c.choose-chosen.new.self c.act_chosen-row.new.self c.choose-chosen.result c.act_chosen-row.result e.jobs e.same e.running e.states c.act_chosen-row.ensures.acts c.repeats-self-inside.result c.act_chosen-row.result.job c.poll_of-self-inside.result log)

pub returns-clause-again : goal.returns-clause-again
returns-clause-again g c =
    let mid = c.choose-chosen.new.self in
    let new = c.act_chosen-row.new.self in
    let row = c.act_chosen-row.result in
    let acts = c.act_chosen-row.ensures.acts in
    let core = acts_core mid new c.choose-chosen.result c.self.inside.tick row acts ∙ sym (core_after mid new c.choose-chosen.result c.self.inside.tick row acts) in
    repeats_only (record { tick = c.self.inside.tick + 1; jobs = new; again = c.repeats-self-inside.result; job = row.job; poll = c.poll_of-self-inside.result }) row (λ some. (can_kind new row.kind row.job c.repeats-self-inside.result (c.repeats-self-inside.ensures.can some), refl)) c.poll_of-self-inside.ensures core
