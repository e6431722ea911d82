use Rattle.std.proofs.Common.{◌≡◌}
use Rattle.msrp_plan.proofs.Common.{false, take}
use Rattle.msrp_events.specs.LiveJobs.{is_held}
use Rattle.msrp_event_audit.proofs.jobs.is_held.Given as goal

abbrev pub invariant-loop-live : goal.invariant-loop-live
invariant-loop-live l = is_held l.system (take l.live-index l.jobs) l.res.0 ≡ false
