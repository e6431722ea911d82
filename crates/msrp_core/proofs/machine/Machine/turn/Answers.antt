use Rattle.msrp_plan.proofs.Common.{subst, IsCoreTurn}
use Rattle.msrp_core.proofs.Common.{MachineModel, StandsAfter}
use Rattle.msrp_core.proofs.machine.Machine.turn.Goals as goal

pub returns-in-None-clause-row : goal.returns-in-None-clause-row
returns-in-None-clause-row g c = λ log. subst (λ (m : MachineModel). StandsAfter m log → IsCoreTurn m.plan m.core log c.turn_anew.result) c.in-None.ensures.none (c.turn_anew.ensures.row log)
