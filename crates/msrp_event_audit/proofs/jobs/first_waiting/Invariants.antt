use Rattle.std.proofs.Common.{◌≡◌}
use Rattle.msrp_plan.proofs.Common.{None, take}
use Rattle.std.specs.Prelude.{find}
use Rattle.msrp_events.specs.LiveJobs.{awaits}
use Rattle.msrp_event_audit.proofs.jobs.first_waiting.Given as goal

abbrev pub invariant-loop-live : goal.invariant-loop-live
invariant-loop-live l = find (awaits l.system l.res.0) (take l.live-index l.jobs) ≡ None
