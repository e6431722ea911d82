use Rattle.std.proofs.Common.{◌∙◌}
use Rattle.msrp_plan.proofs.Common.{ap, refl, Some, true, sym, allows}
use Rattle.msrp_core.proofs.Common.{Action, Grant, Holding, Jobs, is_waiting_phase}
use Rattle.msrp_plan.specs.declared.units.Op.TheVariants.{Lock as LockUnit}
use Rattle.msrp_core.proofs.Acting.{granting, holds_at, last_by, same_here, still_of_core, still_current, unit_acts, waiting_global}
use Rattle.msrp_core.proofs.jobs.Jobs.granted.Goals as goal

pub advance-requires-clause-current : goal.advance-requires-clause-current
advance-requires-clause-current c = still_current c.args.self.now c.args.job (LockUnit c.args.res) c.requires.can (Holding c.args.res) c.args.self.now.stack c.requires.can.running.newest.held (granting c.args.self.now c.args.job c.args.res c.requires.can c.requires.awaits)

pub advance-requires-clause-core : goal.advance-requires-clause-core
advance-requires-clause-core c = still_of_core c.args.self.now c.args.job (LockUnit c.args.res) c.requires.can (Holding c.args.res) c.args.self.now.stack c.requires.can.running.newest.held (granting c.args.self.now c.args.job c.args.res c.requires.can c.requires.awaits)

pub advance-requires-clause-last : goal.advance-requires-clause-last
advance-requires-clause-last c = last_by c.args.self.now c.args.job (LockUnit c.args.res) c.requires.can (Holding c.args.res) c.args.self.now.stack c.requires.can.running.newest.held (granting c.args.self.now c.args.job c.args.res c.requires.can c.requires.awaits)

pub returns-clause-acts : goal.returns-clause-acts
returns-clause-acts c = λ tick r is.
    unit_acts c.args.self.now c.advance.new.self c.args.job (LockUnit c.args.res) tick r (Holding c.args.res) Grant (Some c.args.res) c.args.self.now.stack c.requires.can.running.newest.held c.requires.can (granting c.args.self.now c.args.job c.args.res c.requires.can c.requires.awaits)
    (record { active = c.advance.ensures.active; size = c.advance.ensures.size; room = c.advance.ensures.room; stack_plan = c.advance.ensures.stack.plan; stack_core = c.advance.ensures.stack.core; others = c.advance.ensures.others; current = c.advance.ensures.current })
    (record { tick_is = is.tick_is; core_is = is.core_is ∙ sym (ap (λ (j : Jobs). j.core) c.advance.ensures.others); job_is = is.job_is; kind_is = is.kind_is ∙ ap (λ (a : Action). a.kind) c.action_on.ensures; res_is = is.res_is ∙ ap (λ (a : Action). a.res) c.action_on.ensures })
    (same_here c.args.res) (ap (λ b. allows b (is_waiting_phase c.args.self.now.phase) (LockUnit c.args.res) Grant) (waiting_global c.args.self.now.plan.now c.args.self.now.phase c.requires.can.running.newest c.requires.can.running.below c.args.res c.requires.awaits (holds_at c.args.self.now c.args.job (LockUnit c.args.res) c.requires.can)) ∙ ap (λ p. allows true (is_waiting_phase p) (LockUnit c.args.res) Grant) c.requires.awaits) refl refl
