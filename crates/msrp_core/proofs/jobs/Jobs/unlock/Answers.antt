use Rattle.std.proofs.Common.{◌∙◌}
use Rattle.msrp_plan.proofs.Common.{ap, refl, Some, sym, allows}
use Rattle.msrp_plan.specs.declared.rows.Kind.TheVariants.{Unlock}
use Rattle.msrp_plan.specs.declared.units.Op.TheVariants.{Unlock as UnlockUnit}
use Rattle.msrp_core.proofs.Common.{Action, Jobs, is_waiting_phase}
use Rattle.msrp_core.proofs.Acting.{is_innermost, last_by, same_here, still_of_core, still_current, still_running, unit_acts, unlocking, unlocks}
use Rattle.msrp_core.proofs.jobs.Jobs.unlock.Goals as goal

pub unlock-requires-clause-innermost : goal.unlock-requires-clause-innermost
unlock-requires-clause-innermost c = is_innermost c.args.self.now c.args.job c.args.res c.requires.can

pub advance-requires-clause-running : goal.advance-requires-clause-running
advance-requires-clause-running c = still_running c.args.self.now c.args.job (UnlockUnit c.args.res) c.requires.can _ (unlocks c.args.self.now c.args.job c.args.res c.requires.can).rest (unlocking c.args.self.now c.args.job c.args.res c.requires.can c.unlock.new.self c.unlock.ensures c.requires.local).active

pub advance-requires-clause-current : goal.advance-requires-clause-current
advance-requires-clause-current c = still_current c.args.self.now c.args.job (UnlockUnit c.args.res) c.requires.can c.args.self.now.phase c.unlock.new.self (unlocks c.args.self.now c.args.job c.args.res c.requires.can).rest (unlocking c.args.self.now c.args.job c.args.res c.requires.can c.unlock.new.self c.unlock.ensures c.requires.local)

pub advance-requires-clause-core : goal.advance-requires-clause-core
advance-requires-clause-core c = still_of_core c.args.self.now c.args.job (UnlockUnit c.args.res) c.requires.can c.args.self.now.phase c.unlock.new.self (unlocks c.args.self.now c.args.job c.args.res c.requires.can).rest (unlocking c.args.self.now c.args.job c.args.res c.requires.can c.unlock.new.self c.unlock.ensures c.requires.local)

pub advance-requires-clause-last : goal.advance-requires-clause-last
advance-requires-clause-last c = last_by c.args.self.now c.args.job (UnlockUnit c.args.res) c.requires.can c.args.self.now.phase c.unlock.new.self (unlocks c.args.self.now c.args.job c.args.res c.requires.can).rest (unlocking c.args.self.now c.args.job c.args.res c.requires.can c.unlock.new.self c.unlock.ensures c.requires.local)

pub returns-clause-acts : goal.returns-clause-acts
returns-clause-acts c = λ tick r is.
    unit_acts c.args.self.now c.advance.new.self c.args.job (UnlockUnit c.args.res) tick r c.args.self.now.phase Unlock (Some c.args.res) c.unlock.new.self (unlocks c.args.self.now c.args.job c.args.res c.requires.can).rest c.requires.can (unlocking c.args.self.now c.args.job c.args.res c.requires.can c.unlock.new.self c.unlock.ensures c.requires.local)
    (record { active = c.advance.ensures.active; size = c.advance.ensures.size; room = c.advance.ensures.room; stack_plan = c.advance.ensures.stack.plan; stack_core = c.advance.ensures.stack.core; others = c.advance.ensures.others; current = c.advance.ensures.current })
    (record { tick_is = is.tick_is; core_is = is.core_is ∙ sym (ap (λ (j : Jobs). j.core) c.advance.ensures.others); job_is = is.job_is; kind_is = is.kind_is ∙ ap (λ (a : Action). a.kind) c.action_on.ensures; res_is = is.res_is ∙ ap (λ (a : Action). a.res) c.action_on.ensures })
    (same_here c.args.res) (ap (λ b. allows b (is_waiting_phase c.args.self.now.phase) (UnlockUnit c.args.res) Unlock) c.requires.local) refl refl
