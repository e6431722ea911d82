use Rattle.std.proofs.Common.{◌∙◌, refl, sym, arith}
use Rattle.std.proofs.lemmas.Bool.{or_from}
use Rattle.std.proofs.lemmas.List.{length-map, take_all}
use Rattle.std.proofs.lemmas.List.Folds.{list_any_at, list_any_more}
use Rattle.msrp_plan.specs.Common.{TaskModel, no_task, nests_global}
use Rattle.msrp_plan.specs.Inside.Tasks.{task_view}
use Rattle.msrp_plan.specs.Inside.Views.{draft_view}
use Rattle.msrp_plan.proofs.builder.PlanBuilder.nests_globals.Goals as goal

pub loop-task-init : goal.loop-task-init
loop-task-init c = refl

pub returns-then-nests_global : goal.returns-then-nests_global
returns-then-nests_global c =
    let plan = draft_view c.self.inside in
    let size = length-map c.self.inside.parts.tasks.entries task_view in
    let found = rw (← c.self.view_is) at (sym c.nests_global.ensures ∙ c.if-nests_global.true) in
    rw (← c.self.view_is) (sym (list_any_at (λ (task : TaskModel). nests_global plan task.units) plan.tasks c.loop-task.task no_task (omega (arith, size, c.len-task-end.ensures.len, c.loop-task-test.true)) found))

pub loop-task-preserved : goal.loop-task-preserved
loop-task-preserved c =
    let plan = draft_view c.self.inside in
    let size = length-map c.self.inside.parts.tasks.entries task_view in
    let none = rw (← c.self.view_is) at (sym c.nests_global.ensures ∙ c.if-nests_global.false) in
    let before = rw (← c.self.view_is) at c.loop-task.invariant in
    rw (← c.self.view_is) (list_any_more (λ (task : TaskModel). nests_global plan task.units) plan.tasks c.loop-task.task no_task (omega (arith, size, c.len-task-end.ensures.len, c.loop-task-test.true)) ∙ or_from _ _ before none)

pub returns : goal.returns
returns c =
    let plan = draft_view c.self.inside in
    let size = length-map c.self.inside.parts.tasks.entries task_view in
    let before = rw (← c.self.view_is) at c.loop-task.invariant in
    let all = take_all c.loop-task.task plan.tasks (omega (arith, size, c.len-task-end.ensures.len, c.loop-task-test.false)) in
    rw (← c.self.view_is) (sym (rw all at before))
