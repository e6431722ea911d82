use Rattle.std.proofs.Common.{◌-◌, ◌∙◌}
use Rattle.msrp_plan.proofs.Common.{sym, ap, arith, nat_eq, list_any}
use Rattle.msrp_levels.proofs.DistinctDeadlines.{distinct_again, distinct_push, distinct_levels}
use Rattle.msrp_system.proofs.tables.distinct_deadlines.Goals as goal

pub loop-t-preserved-then-not-contains : goal.loop-t-preserved-then-not-contains
loop-t-preserved-then-not-contains c =
    let d = c.deadline-deadline.result in
    let new = ap (list_any (λ y. nat_eq y d)) (sym c.deref.ensures.value) ∙ (sym c.contains.ensures.value ∙ c.if-not-contains.true) in
    record {
      found = rw c.push_reserved.ensures.items (distinct_push c.args.parts.now (c.loop-t.t - 1) c.loop-t.t d c.loop-t.deadlines.items (omega arith) (omega arith) c.deadline-deadline.ensures new c.loop-t.invariant.found);
      few = omega arith;
      room = c.push_reserved.ensures.capacity ∙ c.loop-t.invariant.room;
    }

pub loop-t-preserved : goal.loop-t-preserved
loop-t-preserved c =
    let d = c.deadline-deadline.result in
    let again = ap (list_any (λ y. nat_eq y d)) (sym c.deref.ensures.value) ∙ (sym c.contains.ensures.value ∙ c.if-not-contains.false) in
    record {
      found = distinct_again c.args.parts.now (c.loop-t.t - 1) c.loop-t.t d c.loop-t.deadlines.items (omega arith) (omega arith) c.deadline-deadline.ensures again c.loop-t.invariant.found;
      few = omega arith;
      room = c.loop-t.invariant.room;
    }

pub returns-clause-levels : goal.returns-clause-levels
returns-clause-levels c = distinct_levels c.args.parts.now c.loop-t.t c.loop-t.deadlines.items (omega arith) c.loop-t.invariant.found
