use Rattle.std.proofs.Common.{◌≡◌}
use Rattle.msrp_plan.proofs.Common.{take}
use Rattle.msrp_events.specs.Choices.{ceiling}
use Rattle.msrp_event_audit.proofs.choices.ceiling.Given as goal

abbrev pub invariant-loop-live : goal.invariant-loop-live
invariant-loop-live l = l.highest ≡ ceiling l.system (take l.live-index l.jobs) l.core.0
