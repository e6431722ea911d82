use Rattle.std.proofs.Common.{◌∙◌}
use Rattle.msrp_plan.proofs.Common.{refl, sym, none-some}
use Rattle.msrp_core.proofs.Running.{running_done, running_known, running_of, state_told}
use Rattle.msrp_core.proofs.jobs.Jobs.state.Goals as goal

pub returns-in-Some : goal.returns-in-Some
returns-in-Some c = λ log told.
    let jobs = c.args.self.now in
    state_told jobs c.args.tick log (record { running = c.top-running.result; head = c.head_at.result; ceiling = c.ceiling.result; done = c.progress.result }) c.requires.jobs c.top-running.ensures.first c.head_at.ensures c.ceiling.ensures
    (λ none. absurd (none-some _ (sym none ∙ c.in-Some.is)))
    (λ j e.
    let run = running_of jobs j c.requires.jobs.size (sym c.top-running.ensures.newest ∙ e) in
    (running_done jobs j c.requires.jobs run ∙ sym (c.progress.ensures run.newest run.below run.active), (running_known jobs j c.requires.jobs run).0)) told

pub returns-in-None : goal.returns-in-None
returns-in-None c = λ log told.
    state_told c.args.self.now c.args.tick log (record { running = c.top-running.result; head = c.head_at.result; ceiling = c.ceiling.result; done = 0 }) c.requires.jobs c.top-running.ensures.first c.head_at.ensures c.ceiling.ensures
    (λ _. refl) (λ j e. absurd (none-some j (sym c.in-None.is ∙ e))) told
