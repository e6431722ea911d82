use Rattle.msrp_plan.specs.Common.{nat_lt, AreTimes, Listed}
use Rattle.std.proofs.Common.{ap, sym, subst, ◌∙◌, rules}
use Rattle.std.proofs.lemmas.List.Sorted.{IsPartitionPoint-from_clause}
use Rattle.msrp_plan.specs.ReleaseTimes.{AreListed}
use Rattle.msrp_plan.specs.Inside.Tasks.{comes_before, times_view}
use Rattle.msrp_plan.proofs.Jobs.Releases.{listed_first, listed_parts}
use Rattle.msrp_plan.proofs.times.Releases.count_before.Goals as goal

pub returns-in-Listed : goal.returns-in-Listed
returns-in-Listed c = λ k.
    let ticks = c.deref.result.now in
    let is : AreListed ticks = subst AreListed (sym c.deref.ensures.value) (subst (λ r. AreTimes (times_view r)) c.in-Listed.is c.requires) in
    let parts = IsPartitionPoint-from_clause (λ y. nat_lt y c.args.tick) ticks c.partition_point.result c.partition_point.ensures.partitioned (listed_parts ticks c.args.tick is.rising) (λ a r f called. search rules) in
    ap (λ r. comes_before (times_view r) c.args.tick k) c.in-Listed.is
    ∙ (ap (λ ts. comes_before (Listed ts) c.args.tick k) (sym c.deref.ensures.value) ∙ listed_first ticks c.args.tick c.partition_point.result k c.partition_point.ensures.bound parts)
