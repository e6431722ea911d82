use Rattle.std.proofs.Common.{◌∙◌}
use Rattle.msrp_plan.proofs.Common.{ap, sym, option_map}
use Rattle.msrp_events.specs.Changes.{no_job}
use Rattle.msrp_events.specs.LiveJobs.{awaits}
use Rattle.msrp_events.specs.declared.states.LiveJob.{LiveJob}
use Rattle.msrp_event_audit.proofs.Firsts.{find_whole, find_next}
use Rattle.msrp_event_audit.proofs.jobs.first_waiting.Goals as goal

pub returns-then-awaits : goal.returns-then-awaits
returns-then-awaits c = sym (ap (option_map (λ (x : LiveJob). x.job)) (find_whole (awaits c.args.system.now c.args.res.0) c.args.jobs.now c.loop-live.live-index no_job c.loop-live-test.true c.loop-live.invariant (sym c.awaits.ensures ∙ c.if-awaits.true)))

pub loop-live-preserved : goal.loop-live-preserved
loop-live-preserved c = find_next (awaits c.args.system.now c.args.res.0) c.args.jobs.now c.loop-live.live-index no_job c.loop-live-test.true c.loop-live.invariant (sym c.awaits.ensures ∙ c.if-awaits.false)
