use Rattle.std.proofs.Common.{◌∙◌}
use Rattle.msrp_plan.proofs.Common.{wrote-more}
use Rattle.msrp_text.proofs.writing.write_listed.Goals as goal

pub returns : goal.returns
returns g c =
    let name = rw (c.as_bytes.ensures.value ∙ c.task_name.ensures) at c.field.ensures in
    let core = rw (c.from.ensures ∙ c.core_of.ensures) at c.number.ensures in
    let deadline = rw (c.from-2.ensures ∙ c.deadline.ensures) at c.number-2.ensures in
    wrote-more _ _ _ _ _ _ c.add.ensures (wrote-more _ _ _ _ _ _ name (wrote-more _ _ _ _ _ _ core (wrote-more _ _ _ _ _ _ deadline c.add-2.ensures)))
