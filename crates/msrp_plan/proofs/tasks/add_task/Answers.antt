use Rattle.msrp_plan.specs.Common.{map, false, string_bytes, TaskModel, has_name}
use Rattle.std.proofs.Common.{◌≡◌, ap, ◌∙◌, refl}
use Rattle.msrp_plan.specs.Inside.Tasks.{task_view}
use Rattle.msrp_plan.proofs.Building.Stored.{task_push}
use Rattle.msrp_plan.proofs.tasks.add_task.Goals as goal

pub returns-clause-added : goal.returns-clause-added
returns-clause-added c =
    let same = c.in_ok-name.ensures.ok in
    let new : has_name (map (λ (u : TaskModel). u.name) (map task_view c.args.tasks.now.entries)) (string_bytes c.in_ok-name.name) ≡ false = rw same c.requires in
    ap (map task_view) c.in_ok-insert.ensures.entries ∙ task_push c.args.tasks.now c.in_ok-name.name c.args.task new ∙ rw same refl
