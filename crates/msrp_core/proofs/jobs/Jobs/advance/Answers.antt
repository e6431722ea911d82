use Rattle.std.proofs.Common.{◌+◌, ◌≡◌, ◌∙◌}
use Rattle.msrp_plan.proofs.Common.{ap, arith, sym, length, units}
use Rattle.msrp_core.proofs.Running.{advanced_on, finished_core, running_units}
use Rattle.msrp_core.proofs.jobs.Jobs.advance.Goals as goal

pub overflow_add-done : goal.overflow_add-done
overflow_add-done c =
    let run = c.requires.running in
    let d = c.progress-done.ensures run.newest run.below run.active in
    let l = c.requires.done run.newest run.below run.active in
    let few = (c.cores-accepted.ensures.plan.draft.each c.args.job.task.0 c.requires.known).size in
    omega (arith, d, l, few)

pub refresh-requires : goal.refresh-requires
refresh-requires c = finished_core c.args.self.now c.finish.new.self c.unwrap_or-self.result c.pop.new.self c.requires.core c.finish.ensures

pub returns-else-done-len-clause-active : goal.returns-else-done-len-clause-active
returns-else-done-len-clause-active c =
    let run = c.requires.running in
    let jobs = c.args.self.now in
    let d : c.progress-done.result ≡ run.newest.done = c.progress-done.ensures run.newest run.below run.active in
    let lent = c.len.ensures ∙ ap length (running_units jobs c.args.job c.requires.size c.requires.current run) in
    let u = ap (λ j. length (units jobs.plan.now j)) run.same in
    advanced_on jobs (c.progress-done.result + 1) run.newest run.below run.active (λ e. c.if-done-len.false (ap (λ k. k + 1) d ∙ (e ∙ (u ∙ sym lent)))) (ap (λ k. k + 1) d)
