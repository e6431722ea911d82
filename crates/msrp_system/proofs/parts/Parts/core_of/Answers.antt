use Rattle.msrp_plan.proofs.Common.{ap, arith, TaskModel}
use Rattle.msrp_system.proofs.parts.Parts.core_of.Goals as goal

pub returns-clause-core : goal.returns-clause-core
returns-clause-core c =
    let below = c.task.ensures.system.core c.args.task.0 c.requires in
    let same = ap (λ (t : TaskModel). t.core) c.task.ensures.value in
    omega (arith, below, same)
