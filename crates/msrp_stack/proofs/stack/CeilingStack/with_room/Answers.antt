use Rattle.msrp_stack.proofs.Changes.{nothing_started}
use Rattle.msrp_stack.proofs.stack.CeilingStack.with_room.Goals as goal

pub invariant_of-result : goal.invariant_of-result
invariant_of-result c =
    nothing_started c.args.plan.now c.args.core.0 c.ceilings_at.result c.in_ok-room.field-0.items c.in_ok-room.field-0.cap c.ceilings_at.ensures.plan c.ceilings_at.ensures.size c.ceilings_at.ensures.ceilings c.in_ok-room.ensures.empty c.in_ok-room.ensures.room
