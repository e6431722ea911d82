use Rattle.std.proofs.Common.{◌≡◌}
use Rattle.msrp_plan.proofs.Common.{length, map, take, vec_capacity}
use Rattle.msrp_event_text.specs.LogVerdicts.{awaited_of}
use Rattle.msrp_event_text.proofs.confirming.awaited_in.Given as goal

abbrev pub invariant-loop-core : goal.invariant-loop-core
invariant-loop-core l = record {
  awaited : l.awaited.items ≡ map awaited_of (take l.core-index l.cores);
  room : vec_capacity l.awaited ≡ length l.cores;
}
