use Rattle.std.proofs.Common.{◌∙◌}
use Rattle.msrp_plan.proofs.Common.{wrote-more}
use Rattle.msrp_text.proofs.writing.write_periodic.Goals as goal

pub returns : goal.returns
returns g c =
    let name = rw (c.as_bytes.ensures.value ∙ c.task_name.ensures) at c.field.ensures in
    let core = rw (c.from.ensures ∙ c.core_of.ensures) at c.number.ensures in
    let period = rw c.from-2.ensures at c.number-2.ensures in
    let deadline = rw (c.from-3.ensures ∙ c.deadline.ensures) at c.number-3.ensures in
    let offset = rw c.from-4.ensures at c.number-4.ensures in
    wrote-more _ _ _ _ _ _ c.add.ensures (wrote-more _ _ _ _ _ _ name (wrote-more _ _ _ _ _ _ core (wrote-more _ _ _ _ _ _ period (wrote-more _ _ _ _ _ _ deadline (wrote-more _ _ _ _ _ _ offset c.add-2.ensures)))))
