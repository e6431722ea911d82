use Rattle.msrp_plan.proofs.Common.{arith, length, subst, sym, range_with_len, PlanModel}
use Rattle.std.proofs.Common.{◌≡◌, ◌<◌, ◌*◌, filter}
use Rattle.msrp_why.proofs.Common.{has_turn}
use Rattle.msrp_why.proofs.Causing.{turns_few, turns_more}
use Rattle.msrp_why.proofs.causes.cores_with_turn.Goals as goal

pub loop-core-preserved : goal.loop-core-preserved
loop-core-preserved c =
    let i = c.loop-core.invariant in
    let low = c.loop-core-test.true in
    let fits : length c.loop-core.found.items < 8 = omega (arith, low, i.0, c.loop-core.auto.core-end, c.cores-core-end.ensures.value, c.cores-core-end.ensures.plan.draft.cores.1) in
    let step = c.push_if.ensures fits in (
      turns_few c.is_due.result c.loop-core.core c.loop-core.found.items c.push_if.new.found.items step i.0,
      λ rows fed none left.
          turns_more c.args.plan.now rows c.loop-core.core c.is_due.result c.loop-core.found.items c.push_if.new.found.items
          (subst (λ (p : PlanModel). c.is_due.result ≡ has_turn p rows c.loop-core.core) c.requires.plan (c.is_due.ensures.answer rows fed none (subst (λ (p : PlanModel). length rows < p.cores * p.ticks) (sym c.requires.plan) left))) step
          (i.1 rows fed none left),
    )

pub returns-clause-turns : goal.returns-clause-turns
returns-clause-turns c = λ rows fed none left.
    let i = c.loop-core.invariant in
    let all : c.loop-core.core ≡ c.args.plan.now.cores = omega (arith, c.loop-core-test.false, c.loop-core.auto.core-end, c.cores-core-end.ensures.value) in
    subst (λ n. c.loop-core.found.items ≡ filter (has_turn c.args.plan.now rows) (range_with_len 0 n)) all (i.1 rows fed none left)
