use Rattle.std.proofs.Common.{◌∙◌}
use Rattle.msrp_event_text.proofs.LeftRecords.{awaited-more}
use Rattle.msrp_event_text.proofs.confirming.awaited_in.Goals as goal

pub loop-core-preserved : goal.loop-core-preserved
loop-core-preserved c = record {
  awaited = c.push_reserved.ensures.items ∙ awaited-more _ c.loop-core.core-index _ c.awaited_of.result c.loop-core-test.true c.loop-core.invariant.awaited c.awaited_of.ensures;
  room = c.push_reserved.ensures.capacity ∙ c.loop-core.invariant.room;
}
