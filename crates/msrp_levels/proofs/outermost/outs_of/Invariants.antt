use Rattle.std.proofs.Common.{◌≡◌}
use Rattle.msrp_plan.proofs.Common.{length, map, take, vec_capacity}
use Rattle.msrp_plan.specs.Bounds.{out}
use Rattle.msrp_levels.proofs.outermost.outs_of.Given as goal

abbrev pub invariant-loop-t : goal.invariant-loop-t
invariant-loop-t l = record {
  outs : l.outs.items ≡ map (out l.plan) (take l.t l.plan.tasks);
  room : vec_capacity l.outs ≡ length l.plan.tasks;
}
