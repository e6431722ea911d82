use Rattle.std.proofs.Common.{◌≡◌, ◌++◌}
use Rattle.msrp_plan.proofs.Common.{List, [], length}
use Rattle.msrp_plan.specs.declared.rows.Row.{Row}
use Rattle.msrp_trace.specs.Gathering.{Gathers}
use Rattle.msrp_trace.specs.TraceText.{trace_text}
use Rattle.msrp_engine.proofs.run.write_merged.Given as goal

abbrev pub invariant-loop-turn : goal.invariant-loop-turn
invariant-loop-turn g l =
    (rows : List Row)
    × Gathers g.W.Write.contents [] l.fn.out l.text.text l.out (trace_text l.fn.version l.fn.plan rows)
    × (rows ++ l.merging ≡ l.fn.merging)
    × (length rows ≡ l._turn)
    × (l.text ≡ record { plan = l.fn.plan; version = l.fn.version; text = l.text.text })
