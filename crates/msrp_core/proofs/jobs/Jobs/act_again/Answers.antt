use Rattle.std.proofs.Common.{◌≡◌, ◌+◌}
use Rattle.msrp_plan.proofs.Common.{length, vec_capacity, None, refl, ap, sym, subst, arith}
use Rattle.msrp_plan.specs.declared.rows.Kind.TheVariants.{Run}
use Rattle.msrp_plan.specs.declared.units.Op.TheVariants.{Run as RunUnit}
use Rattle.msrp_core.proofs.Common.{ActsFor, CanRepeat, IsCurrent, Jobs, kind_again}
use Rattle.msrp_core.proofs.Acting.{unit_acts, working}
use Rattle.msrp_core.proofs.Repeating.{counted_on, next_work, work_left}
use Rattle.msrp_core.proofs.jobs.Jobs.act_again.Goals as goal

pub returns-in-Some-clause-acts : goal.returns-in-Some-clause-acts
returns-in-Some-clause-acts c =
    let old = c.args.self.now in
    let new = c.count.new.self in
    let has = (subst (λ o. CanRepeat old (kind_again o) o 1) c.in-Some.is c.requires.can).1 in
    let can = next_work old c.in-Some.job 1 (omega arith) c.requires.jobs has in
    let is = c.count.ensures in
    subst (λ o. ActsFor old new o c.args.tick c.row_on.result) (sym c.in-Some.is)
    (unit_acts old new c.in-Some.job RunUnit c.args.tick c.row_on.result old.phase Run None old.stack can.running.newest.held can (working old c.in-Some.job can)
    (record {
      active = counted_on old new c.in-Some.job c.requires.jobs has is;
      size = subst (λ (j : Jobs). length j.stack.started ≡ length j.below.items) (sym is) c.requires.jobs.size;
      room = ap (λ (j : Jobs). vec_capacity j.below) is;
      stack_plan = ap (λ (j : Jobs). j.stack.plan) is;
      stack_core = ap (λ (j : Jobs). j.stack.core) is;
      others = subst (λ (j : Jobs). j ≡ record old { stack = j.stack; progress = j.progress; below = j.below; rising = j.rising; units = j.units }) (sym is) refl;
      current = subst IsCurrent (sym is) (record { rising = c.requires.jobs.current.rising; units = c.requires.jobs.current.units });
    })
    (record { tick_is = c.row_on.ensures.tick_is; core_is = c.row_on.ensures.core_is; job_is = c.row_on.ensures.job_is; kind_is = c.row_on.ensures.kind_is; res_is = c.row_on.ensures.res_is })
    refl refl refl refl)

pub returns-in-Some-clause-left : goal.returns-in-Some-clause-left
returns-in-Some-clause-left c = λ k can.
    let old = c.args.self.now in
    let new = c.count.new.self in
    let has = (subst (λ o. CanRepeat old (kind_again o) o 1) c.in-Some.is c.requires.can).1 in
    let left = (subst (λ o. CanRepeat old (kind_again o) o (k + 1)) c.in-Some.is can).1 in
    subst (λ o. CanRepeat new (kind_again o) o k) (sym c.in-Some.is) (refl, work_left old new c.in-Some.job k left (counted_on old new c.in-Some.job c.requires.jobs has c.count.ensures) (ap (λ (j : Jobs). j.plan.now) c.count.ensures))
