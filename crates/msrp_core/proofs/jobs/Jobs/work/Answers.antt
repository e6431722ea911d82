use Rattle.std.proofs.Common.{◌∙◌}
use Rattle.msrp_plan.proofs.Common.{refl, None, ap, sym}
use Rattle.msrp_plan.specs.declared.rows.Kind.TheVariants.{Run}
use Rattle.msrp_plan.specs.declared.units.Op.TheVariants.{Run as RunUnit}
use Rattle.msrp_core.proofs.Common.{Jobs}
use Rattle.msrp_core.proofs.Acting.{last_by, still_of_core, still_current, unit_acts, working}
use Rattle.msrp_core.proofs.jobs.Jobs.work.Goals as goal

pub advance-requires-clause-current : goal.advance-requires-clause-current
advance-requires-clause-current c = still_current c.args.self.now c.args.job RunUnit c.requires c.args.self.now.phase c.args.self.now.stack c.requires.running.newest.held (working c.args.self.now c.args.job c.requires)

pub advance-requires-clause-core : goal.advance-requires-clause-core
advance-requires-clause-core c = still_of_core c.args.self.now c.args.job RunUnit c.requires c.args.self.now.phase c.args.self.now.stack c.requires.running.newest.held (working c.args.self.now c.args.job c.requires)

pub advance-requires-clause-last : goal.advance-requires-clause-last
advance-requires-clause-last c = last_by c.args.self.now c.args.job RunUnit c.requires c.args.self.now.phase c.args.self.now.stack c.requires.running.newest.held (working c.args.self.now c.args.job c.requires)

pub returns-clause-acts : goal.returns-clause-acts
returns-clause-acts c = λ tick r is.
    unit_acts c.args.self.now c.advance.new.self c.args.job RunUnit tick r c.args.self.now.phase Run None c.args.self.now.stack c.requires.running.newest.held c.requires (working c.args.self.now c.args.job c.requires)
    (record { active = c.advance.ensures.active; size = c.advance.ensures.size; room = c.advance.ensures.room; stack_plan = c.advance.ensures.stack.plan; stack_core = c.advance.ensures.stack.core; others = c.advance.ensures.others; current = c.advance.ensures.current })
    (record { tick_is = is.tick_is; core_is = is.core_is ∙ sym (ap (λ (j : Jobs). j.core) c.advance.ensures.others); job_is = is.job_is; kind_is = is.kind_is; res_is = is.res_is })
    refl refl refl refl
