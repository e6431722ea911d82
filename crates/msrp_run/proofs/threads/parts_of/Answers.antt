use Rattle.std.proofs.Common.{◌≡◌, ◌∙◌}
use Rattle.msrp_plan.proofs.Common.{rules, subst, sym, vec_items, length}
use Rattle.msrp_run.proofs.Common.{AllAreNew, AreNewParts, CoreParts}
use Rattle.msrp_run.proofs.Threading.{parts_more}
use Rattle.msrp_run.proofs.threads.parts_of.Goals as goal

pub loop-c-preserved : goal.loop-c-preserved
loop-c-preserved c =
    let was = c.loop-c.invariant in
    let all_parts = vec_items c.loop-c.all_parts in
    let count : c.loop-c.c ≡ length all_parts = grind rules in
    let parts : CoreParts = record { machine = c.in_ok-machine.machine; log = c.in_ok-log.log } in
    let e = c.in_ok-machine.ensures in
    let new : AreNewParts c.args.plan.now c.loop-c.c parts = record { plan_is = e.plan; core = e.core; new = e.stands; log = c.in_ok-log.ensures ∙ search rules } in (
      search rules,
      subst (AllAreNew c.args.plan.now) (sym c.push_reserved.ensures.items) (parts_more c.args.plan.now all_parts parts was.1 (subst (λ n. AreNewParts c.args.plan.now n parts) count new)),
      search rules,
    )
