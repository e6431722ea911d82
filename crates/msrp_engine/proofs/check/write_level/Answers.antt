use Rattle.std.proofs.Common.{◌∙◌}
use Rattle.msrp_plan.proofs.Common.{ap, level, wrote-more}
use Rattle.msrp_engine.proofs.check.write_level.Goals as goal

pub returns : goal.returns
returns g c =
    let name = rw (c.as_bytes.ensures.value ∙ c.task_name.ensures) at c.field.ensures in
    let number = rw (c.from.ensures ∙ (c.level.ensures ∙ ap (λ plan. level plan c.args.task.0) c.requires.levels)) at c.number.ensures in
    wrote-more _ _ _ _ _ _ c.add.ensures (wrote-more _ _ _ _ _ _ name (wrote-more _ _ _ _ _ _ number c.add-2.ensures))
