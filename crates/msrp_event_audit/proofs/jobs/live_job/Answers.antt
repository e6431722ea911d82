use Rattle.msrp_event_audit.proofs.Accepted.{live_absent, live_placed}
use Rattle.msrp_plan.proofs.Common.{sym}
use Rattle.std.proofs.Common.{◌∙◌}
use Rattle.msrp_event_audit.proofs.jobs.live_job.Goals as goal

pub returns-in_err-place-clause-value : goal.returns-in_err-place-clause-value
returns-in_err-place-clause-value c = c.from_residual.ensures ∙ sym (live_absent c.args.jobs.now c.args.job (sym c.place_of.ensures.value ∙ c.in_err-place.was))

pub returns-clause-value : goal.returns-clause-value
returns-clause-value c = sym (live_placed c.args.jobs.now c.args.job c.in_ok-place.place (sym c.place_of.ensures.value ∙ c.in_ok-place.was))
