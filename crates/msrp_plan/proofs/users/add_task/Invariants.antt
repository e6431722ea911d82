use Rattle.msrp_plan.specs.Common.{ℕ, Bool, take}
use Rattle.msrp_plan.specs.Inside.Users.{EachIsOn}
use Rattle.msrp_plan.proofs.Levels.CoreUsers.{with_units}
use Rattle.msrp_plan.proofs.users.add_task.Given as goal

abbrev pub invariant-loop-place : goal.invariant-loop-place
invariant-loop-place l = (on : ℕ → ℕ → Bool) → EachIsOn on l.initial.users → EachIsOn (with_units on (take l.place l.task.units.items) l.task.core.0) l.users
