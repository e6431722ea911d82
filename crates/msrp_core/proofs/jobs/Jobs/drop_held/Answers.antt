use Rattle.std.proofs.Common.{◌∙◌}
use Rattle.msrp_plan.proofs.Common.{ap, refl, Some, sym, allows}
use Rattle.msrp_core.proofs.Common.{Action, Free, Jobs, Release, is_waiting_phase}
use Rattle.msrp_plan.specs.declared.units.Op.TheVariants.{Unlock as UnlockUnit}
use Rattle.msrp_core.proofs.Acting.{dropping, is_innermost, last_by, same_here, still_of_core, still_current, still_running, unit_acts, unlocks}
use Rattle.msrp_core.proofs.jobs.Jobs.drop_held.Goals as goal

pub drop_global-requires-clause-innermost : goal.drop_global-requires-clause-innermost
drop_global-requires-clause-innermost c = is_innermost c.args.self.now c.args.job c.args.res c.requires.can

pub advance-requires-clause-running : goal.advance-requires-clause-running
advance-requires-clause-running c = still_running c.args.self.now c.args.job (UnlockUnit c.args.res) c.requires.can _ (unlocks c.args.self.now c.args.job c.args.res c.requires.can).rest (dropping c.args.self.now c.args.job c.args.res c.requires.can c.drop_global.new.self c.drop_global.ensures c.requires.global).active

pub advance-requires-clause-current : goal.advance-requires-clause-current
advance-requires-clause-current c = still_current c.args.self.now c.args.job (UnlockUnit c.args.res) c.requires.can Free c.drop_global.new.self (unlocks c.args.self.now c.args.job c.args.res c.requires.can).rest (dropping c.args.self.now c.args.job c.args.res c.requires.can c.drop_global.new.self c.drop_global.ensures c.requires.global)

pub advance-requires-clause-core : goal.advance-requires-clause-core
advance-requires-clause-core c = still_of_core c.args.self.now c.args.job (UnlockUnit c.args.res) c.requires.can Free c.drop_global.new.self (unlocks c.args.self.now c.args.job c.args.res c.requires.can).rest (dropping c.args.self.now c.args.job c.args.res c.requires.can c.drop_global.new.self c.drop_global.ensures c.requires.global)

pub advance-requires-clause-last : goal.advance-requires-clause-last
advance-requires-clause-last c = last_by c.args.self.now c.args.job (UnlockUnit c.args.res) c.requires.can Free c.drop_global.new.self (unlocks c.args.self.now c.args.job c.args.res c.requires.can).rest (dropping c.args.self.now c.args.job c.args.res c.requires.can c.drop_global.new.self c.drop_global.ensures c.requires.global)

pub returns-clause-acts : goal.returns-clause-acts
returns-clause-acts c = λ tick r is.
    unit_acts c.args.self.now c.advance.new.self c.args.job (UnlockUnit c.args.res) tick r Free Release (Some c.args.res) c.drop_global.new.self (unlocks c.args.self.now c.args.job c.args.res c.requires.can).rest c.requires.can (dropping c.args.self.now c.args.job c.args.res c.requires.can c.drop_global.new.self c.drop_global.ensures c.requires.global)
    (record { active = c.advance.ensures.active; size = c.advance.ensures.size; room = c.advance.ensures.room; stack_plan = c.advance.ensures.stack.plan; stack_core = c.advance.ensures.stack.core; others = c.advance.ensures.others; current = c.advance.ensures.current })
    (record { tick_is = is.tick_is; core_is = is.core_is ∙ sym (ap (λ (j : Jobs). j.core) c.advance.ensures.others); job_is = is.job_is; kind_is = is.kind_is ∙ ap (λ (a : Action). a.kind) c.action_on.ensures; res_is = is.res_is ∙ ap (λ (a : Action). a.res) c.action_on.ensures })
    (same_here c.args.res) (ap (λ b. allows b (is_waiting_phase c.args.self.now.phase) (UnlockUnit c.args.res) Release) c.requires.global) refl refl
