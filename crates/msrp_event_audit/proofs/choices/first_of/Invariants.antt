use Rattle.std.proofs.Common.{◌≡◌}
use Rattle.msrp_plan.proofs.Common.{take, ForSome}
use Rattle.msrp_events.specs.Choices.{first_of}
use Rattle.msrp_event_audit.specs.LogJobs.{IsKnown}
use Rattle.msrp_event_audit.proofs.choices.first_of.Given as goal

abbrev pub invariant-loop-live : goal.invariant-loop-live
invariant-loop-live l = record {
  first : l.first ≡ first_of l.system (take l.live-index l.jobs) l.core.0 l.started;
  known : ForSome l.first (IsKnown l.system);
}
