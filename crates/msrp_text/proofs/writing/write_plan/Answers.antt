use Rattle.std.proofs.Common.{◌++◌, ◌∙◌}
use Rattle.msrp_plan.proofs.Common.{map, ap, sym, flat_map, flat_map-append, wrote-more}
use Rattle.msrp_text.specs.PlanText.{head_records, plan_records, record_text, records_text, resource_record, task_records}
use Rattle.msrp_text.proofs.Written.{wrote-as}
use Rattle.msrp_text.proofs.writing.write_plan.Goals as goal

pub returns-clause-wrote : goal.returns-clause-wrote
unfolding plan_records
returns-clause-wrote g c =
    let plan = c.args.plan.now in
    let resources = map resource_record plan.resources in
    let tasks = flat_map (task_records plan) plan.tasks in
    let whole = flat_map-append record_text (head_records plan) (resources ++ tasks) ∙ ap (λ text. records_text (head_records plan) ++ text) (flat_map-append record_text resources tasks) in
    wrote-as _ _ _ _ _ (sym whole) (wrote-more _ _ _ _ _ _ c.write_head.ensures.wrote (wrote-more _ _ _ _ _ _ c.write_resources.ensures c.write_tasks.ensures))
