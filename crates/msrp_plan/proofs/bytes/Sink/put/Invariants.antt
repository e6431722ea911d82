use Rattle.std.proofs.Common.{◌-◌, ◌≡◌, ◌≤◌}
use Rattle.msrp_plan.specs.Common.{length, false, take, sink_failed}
use Rattle.std.specs.Io.KnownBytes.{Appends}
use Rattle.msrp_plan.specs.Bytes.{sink_inner}
use Rattle.msrp_plan.proofs.bytes.Sink.put.Given as goal

abbrev pub invariant-loop-at : goal.invariant-loop-at
invariant-loop-at g l = (l.at ≤ length l.text) × (sink_failed l.self ≡ false) × Appends (g.W.Write.contents (sink_inner l.fn.self)) (g.W.Write.contents (sink_inner l.self)) (take l.at l.text)

abbrev pub decreases-loop-at : goal.decreases-loop-at
decreases-loop-at g l = length l.text - l.at
