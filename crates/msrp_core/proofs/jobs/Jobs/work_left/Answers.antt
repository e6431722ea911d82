use Rattle.std.proofs.Common.{◌∙◌}
use Rattle.msrp_plan.proofs.Common.{ap, sym, arith, length, slice_get, units}
use Rattle.msrp_core.proofs.Running.{running_left, running_units}
use Rattle.msrp_core.proofs.jobs.Jobs.work_left.Goals as goal

pub returns-clause-left : goal.returns-clause-left
returns-clause-left c =
    let jobs = c.args.self.now in
    let run = c.requires.running in
    let d = c.progress-done.ensures run.newest run.below run.active in
    let u = ap (λ j. length (units jobs.plan.now j)) run.same in
    let l = running_left jobs run.newest run.below c.requires.jobs run.active in
    let lent = running_units jobs c.args.job c.requires.jobs.size c.requires.jobs.current run in
    let n = c.min.ensures in
    record {
      running = run;
      work = λ i a b. ap (λ l. slice_get l i) (sym lent) ∙ c.work.ensures.work i (omega (arith, d, a)) (omega (arith, d, b, n));
      more = let k = c.len.ensures in let s = ap length lent in omega (arith, d, u, l, n, k, s);
    }
