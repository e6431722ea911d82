use Rattle.std.proofs.Common.{◌≡◌, ◌∙◌}
use Rattle.msrp_plan.proofs.Common.{rules, sym}
use Rattle.msrp_trace.proofs.Names.{same_bytes, task_found, task_unnamed}
use Rattle.msrp_trace.proofs.rows.task_named.Goals as goal

pub returns-then-eq : goal.returns-then-eq
returns-then-eq c =
    let e : c.task_name.result.now ≡ c.args.name.now = search (rules, same_bytes) in
    sym (task_found c.args.plan.now c.args.guess c.args.name.now c.tasks.ensures.plan (search rules) (sym c.task_name.ensures ∙ e))

pub returns-in-Err : goal.returns-in-Err
returns-in-Err c = sym (task_unnamed c.args.plan.now c.args.name.now c.tasks.ensures.plan c.in-Err.ensures.cases.0)
