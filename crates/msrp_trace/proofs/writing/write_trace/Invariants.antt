use Rattle.std.proofs.Common.{◌≡◌}
use Rattle.msrp_plan.proofs.Common.{[], take}
use Rattle.msrp_trace.specs.Gathering.{Gathers}
use Rattle.msrp_trace.specs.TraceText.{trace_text}
use Rattle.msrp_trace.proofs.writing.write_trace.Given as goal

abbrev pub invariant-loop-row : goal.invariant-loop-row
invariant-loop-row g l =
    Gathers g.W.Write.contents [] l.fn.writer l.text.text l.writer (trace_text l.fn.version l.fn.plan (take l.row-index l.trace.rows.items))
    × (l.text ≡ record { plan = l.fn.plan; version = l.fn.version; text = l.text.text })
