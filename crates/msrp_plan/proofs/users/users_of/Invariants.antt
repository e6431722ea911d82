use Rattle.msrp_plan.specs.Common.{map}
use Rattle.msrp_plan.specs.declared.tasks.Task.{Task}
use Rattle.std.specs.Map.Iter.{deref}
use Rattle.msrp_plan.specs.Inside.Users.{EachIsOn, is_used_on}
use Rattle.msrp_plan.proofs.users.users_of.Given as goal

abbrev pub invariant-loop-task : goal.invariant-loop-task
invariant-loop-task l = EachIsOn (is_used_on (map (deref {X = Task}) l.yielded)) l.users
