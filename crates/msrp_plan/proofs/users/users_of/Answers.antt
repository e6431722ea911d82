use Rattle.msrp_plan.specs.Common.{List, map}
use Rattle.msrp_plan.specs.declared.tasks.Task.{Task}
use Rattle.std.proofs.Common.{◌≡◌, ◌||◌, subst, rules}
use Rattle.std.specs.Map.Iter.{deref}
use Rattle.std.proofs.lemmas.Map.Iter.{iter_end}
use Rattle.indexmap.specs.IndexMap.{values}
use Rattle.msrp_plan.specs.Inside.Users.{EachIsOn, is_used_on, is_user_on}
use Rattle.msrp_plan.proofs.Levels.CoreUsers.{each_none, each_same, task_more}
use Rattle.msrp_plan.proofs.users.users_of.Goals as goal

pub loop-task-init : goal.loop-task-init
loop-task-init c = each_none

pub loop-task-preserved : goal.loop-task-preserved
loop-task-preserved c =
    let before = is_used_on (map (deref {X = Task}) c.loop-task.yielded) in
    each_same (λ g k. before g k || is_user_on g k c.in-Some.task.now) _ (task_more (deref {X = Task}) c.loop-task.yielded c.in-Some.task) c.add_task.new.users (c.add_task.ensures before c.loop-task.invariant)

pub returns : goal.returns
returns c =
    let all : map (deref {X = Task}) c.loop-task.yielded ≡ values c.args.tasks.now = search (rules, iter_end) in
    subst (λ (tasks : List Task). EachIsOn (is_used_on tasks) c.loop-task.users) all c.loop-task.invariant
