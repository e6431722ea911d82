use Rattle.std.proofs.Common.{◌≡◌, ◌≤◌}
use Rattle.msrp_plan.proofs.Common.{length, vec_capacity}
use Rattle.msrp_levels.proofs.FirstTasks.{AreTold}
use Rattle.msrp_levels.proofs.usage.Usage.of.Given as goal

abbrev pub invariant-loop-t : goal.invariant-loop-t
invariant-loop-t l = record {
  told : AreTold l.plan l.res.0 l.t l.users.items l.ceiling l.cores.items;
  room : vec_capacity l.users ≡ length l.tasks;
  few : length l.users.items ≤ l.t;
}
