use Rattle.std.proofs.Common.{◌∙◌}
use Rattle.msrp_plan.proofs.Common.{ap, sym, arith, length, slice_get, units}
use Rattle.msrp_core.proofs.Running.{running_left, running_units}
use Rattle.msrp_core.proofs.jobs.Jobs.unit.Goals as goal

pub unit-requires : goal.unit-requires
unit-requires c =
    let jobs = c.args.self.now in
    let run = c.requires.running in
    let d = c.progress.ensures run.newest run.below run.active in
    let l = running_left jobs run.newest run.below c.requires.jobs run.active in
    let u = ap (λ j. length (units jobs.plan.now j)) run.same in
    let lent = ap length (running_units jobs c.args.job c.requires.jobs.size c.requires.jobs.current run) in
    omega (arith, d, l, u, lent)

pub returns : goal.returns
returns c =
    let jobs = c.args.self.now in
    let run = c.requires.running in
    let d = c.progress.ensures run.newest run.below run.active in
    let lent = running_units jobs c.args.job c.requires.jobs.size c.requires.jobs.current run in
    record {
      jobs_fit = c.requires.jobs;
      running = run;
      unit = ap (slice_get (units jobs.plan.now c.args.job)) (sym d) ∙ (ap (λ l. slice_get l c.progress.result) (sym lent) ∙ c.unit.ensures);
    }
