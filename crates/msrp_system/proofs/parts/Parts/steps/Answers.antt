use Rattle.msrp_plan.proofs.Common.{ap, arith, length, TaskModel}
use Rattle.msrp_system.proofs.parts.Parts.steps.Goals as goal

pub returns-clause-most : goal.returns-clause-most
returns-clause-most c =
    let few = c.task.ensures.system.steps c.args.task.0 c.requires in
    let same = ap (λ (t : TaskModel). length t.units) c.task.ensures.value in
    let items = ap length c.as_slice.ensures.value in
    omega (arith, few, same, items)
