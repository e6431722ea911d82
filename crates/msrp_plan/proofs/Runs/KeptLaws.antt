-- A legal run of a well-formed plan keeps the laws.
use Rattle.msrp_plan.specs.Common.{List, PlanModel, IsRun, IsRunStart, IsPlan}
use Rattle.msrp_plan.specs.declared.rows.Row.{Row}
use Rattle.std.proofs.Common.{arith}
use Rattle.msrp_plan.specs.Laws.{KeepsLaws}
use Rattle.msrp_plan.proofs.Holding.LocalLocks.{no_local_blocking}
use Rattle.msrp_plan.proofs.Holding.Exclusion.{mutual_exclusion}
use Rattle.msrp_plan.proofs.Queues.Overtaking.{bounded_overtaking}
use Rattle.msrp_plan.proofs.Queues.ShortQueues.{short_queues}
use Rattle.msrp_plan.proofs.Spinning.SpinBound.{bounded_spinning}
use Rattle.msrp_plan.proofs.Blocking.Bound.{bounded_blocking}
use Rattle.msrp_plan.proofs.Scheduling.Released.{runs_released}
use Rattle.msrp_plan.proofs.Scheduling.Conservation.{work_conservation}
use Rattle.msrp_plan.proofs.Scheduling.DeadlineOrder.{earliest_deadline_first}

-- all laws at once
pub keeps_laws : (plan : PlanModel) (rows : List Row) → IsPlan plan → IsRun plan rows → KeepsLaws plan rows
keeps_laws plan rows ok run =
    let e = run.size in
    let start : IsRunStart plan rows = record { size = omega (arith, e); each = run.each } in
    record {
      well_formed = ok;
      run = run;
      blocking = no_local_blocking plan rows ok start;
      exclusion = mutual_exclusion plan rows ok start;
      overtaking = bounded_overtaking plan rows ok start;
      queues = short_queues plan rows ok start;
      spinning = bounded_spinning plan rows ok start;
      blocking_bound = bounded_blocking plan rows ok start;
      released = runs_released plan rows start;
      conservation = work_conservation plan rows ok start;
      deadlines = earliest_deadline_first plan rows start;
    }
