use Rattle.msrp_plan.proofs.Common.{map, sym, flat_map-append, task_at, wrote-more}
use Rattle.msrp_text.specs.PlanText.{record_text, step_record, steps_of, times_records}
use Rattle.msrp_text.proofs.Written.{wrote-as}
use Rattle.msrp_text.proofs.writing.write_task.Goals as goal

pub returns : goal.returns
returns g c =
    let plan = c.args.plan.now in
    let task = task_at plan c.args.task.0 in
    wrote-as _ _ _ _ _ (sym (flat_map-append record_text (times_records task) (map (step_record plan) (steps_of task.units)))) (wrote-more _ _ _ _ _ _ c.write_times.ensures c.write_units.ensures)
