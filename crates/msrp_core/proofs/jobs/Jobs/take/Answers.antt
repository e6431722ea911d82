use Rattle.std.proofs.Common.{◌∷◌, ◌∙◌}
use Rattle.msrp_plan.proofs.Common.{ap, refl, Some, true, sym, allows}
use Rattle.msrp_core.proofs.Common.{Action, Holding, Jobs, Take, is_waiting_phase}
use Rattle.msrp_plan.specs.declared.units.Op.TheVariants.{Lock as LockUnit}
use Rattle.msrp_core.proofs.Acting.{last_by, request_fits, same_here, still_of_core, still_current, still_running, taking, unit_acts}
use Rattle.msrp_core.proofs.jobs.Jobs.take.Goals as goal

pub raise_global-requires-clause-room : goal.raise_global-requires-clause-room
raise_global-requires-clause-room c = request_fits c.args.self.now c.args.job c.args.res c.requires.can c.requires.free

pub advance-requires-clause-running : goal.advance-requires-clause-running
advance-requires-clause-running c = still_running c.args.self.now c.args.job (LockUnit c.args.res) c.requires.can _ (c.args.res.0 ∷ c.requires.can.running.newest.held) (taking c.args.self.now c.args.job c.args.res c.requires.can c.raise_global.new.self c.raise_global.ensures c.requires.free c.requires.global).active

pub advance-requires-clause-current : goal.advance-requires-clause-current
advance-requires-clause-current c = still_current c.args.self.now c.args.job (LockUnit c.args.res) c.requires.can (Holding c.args.res) c.raise_global.new.self (c.args.res.0 ∷ c.requires.can.running.newest.held) (taking c.args.self.now c.args.job c.args.res c.requires.can c.raise_global.new.self c.raise_global.ensures c.requires.free c.requires.global)

pub advance-requires-clause-core : goal.advance-requires-clause-core
advance-requires-clause-core c = still_of_core c.args.self.now c.args.job (LockUnit c.args.res) c.requires.can (Holding c.args.res) c.raise_global.new.self (c.args.res.0 ∷ c.requires.can.running.newest.held) (taking c.args.self.now c.args.job c.args.res c.requires.can c.raise_global.new.self c.raise_global.ensures c.requires.free c.requires.global)

pub advance-requires-clause-last : goal.advance-requires-clause-last
advance-requires-clause-last c = last_by c.args.self.now c.args.job (LockUnit c.args.res) c.requires.can (Holding c.args.res) c.raise_global.new.self (c.args.res.0 ∷ c.requires.can.running.newest.held) (taking c.args.self.now c.args.job c.args.res c.requires.can c.raise_global.new.self c.raise_global.ensures c.requires.free c.requires.global)

pub returns-clause-acts : goal.returns-clause-acts
returns-clause-acts c = λ tick r is.
    unit_acts c.args.self.now c.advance.new.self c.args.job (LockUnit c.args.res) tick r (Holding c.args.res) Take (Some c.args.res) c.raise_global.new.self (c.args.res.0 ∷ c.requires.can.running.newest.held) c.requires.can (taking c.args.self.now c.args.job c.args.res c.requires.can c.raise_global.new.self c.raise_global.ensures c.requires.free c.requires.global)
    (record { active = c.advance.ensures.active; size = c.advance.ensures.size; room = c.advance.ensures.room; stack_plan = c.advance.ensures.stack.plan; stack_core = c.advance.ensures.stack.core; others = c.advance.ensures.others; current = c.advance.ensures.current })
    (record { tick_is = is.tick_is; core_is = is.core_is ∙ sym (ap (λ (j : Jobs). j.core) c.advance.ensures.others); job_is = is.job_is; kind_is = is.kind_is ∙ ap (λ (a : Action). a.kind) c.action_on.ensures; res_is = is.res_is ∙ ap (λ (a : Action). a.res) c.action_on.ensures })
    (same_here c.args.res) (ap (λ b. allows b (is_waiting_phase c.args.self.now.phase) (LockUnit c.args.res) Take) c.requires.global ∙ ap (λ p. allows true (is_waiting_phase p) (LockUnit c.args.res) Take) c.requires.free) refl refl
