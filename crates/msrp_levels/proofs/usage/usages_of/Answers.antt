use Rattle.std.proofs.Common.{◌∙◌}
use Rattle.msrp_levels.proofs.Stored.{usages_more}
use Rattle.msrp_levels.proofs.usage.usages_of.Goals as goal

pub loop-r-preserved : goal.loop-r-preserved
loop-r-preserved c = record {
  usages = usages_more c.args.plan.now c.loop-r.r c.loop-r.usages.items c.push_reserved.new.self.items c.in_ok-of.field-0 c.loop-r.invariant.usages c.in_ok-of.ensures c.push_reserved.ensures.items;
  room = c.push_reserved.ensures.capacity ∙ c.loop-r.invariant.room;
}
