use Rattle.std.proofs.Common.{◌∙◌}
use Rattle.msrp_plan.proofs.Common.{ap, subst}
use Rattle.msrp_ready.proofs.Common.{HeapModel, IsComing}
use Rattle.msrp_ready.proofs.Moving.{nothing_released}
use Rattle.msrp_ready.proofs.ready.Ready.with_room.Goals as goal

pub invariant_of-result : goal.invariant_of-result
invariant_of-result c =
    let calendar = c.in_ok-calendar in
    let heap = c.in_ok-heap in
    let is = heap.ensures in
    (nothing_released c.args.plan.now c.args.core.0 calendar.calendar.items heap.heap calendar.ensures.plan calendar.ensures.jobs calendar.ensures.sorted (ap (λ (h : HeapModel). h.jobs) is) (ap (λ (h : HeapModel). h.room) is ∙ c.len.ensures ∙ calendar.calendar.ok.0) (ap (λ (h : HeapModel). h.compared) is), subst (λ l. IsComing l 0 c.release_at-coming.result) c.deref.ensures.value c.release_at-coming.ensures)
