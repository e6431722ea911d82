use Rattle.msrp_plan.proofs.Common.{length, subst, jobs_on, state_after}
use Rattle.msrp_core.proofs.Common.{IsCoreState, MachineModel, StandsAfter, state_of}
use Rattle.msrp_core.proofs.Turning.{told_from}
use Rattle.msrp_core.proofs.machine.Machine.state.Goals as goal

pub returns : goal.returns
returns c = λ log.
    let jobs = c.self.inside.jobs in
    subst (λ (m : MachineModel). StandsAfter m log → IsCoreState m.plan m.core (length log) log c.state.result) c.self.view_is
    (λ stands. subst (λ t. IsCoreState jobs.plan.now jobs.core.0 t log c.state.result) stands.tick (c.state.ensures log (told_from (state_of jobs) (state_after log) (jobs_on jobs.plan.now jobs.core.0) stands.states)))
