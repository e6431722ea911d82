use Rattle.std.proofs.Common.{◌≡◌}
use Rattle.msrp_plan.proofs.Common.{List, []}
use Rattle.msrp_plan.specs.declared.rows.Row.{Row}
use Rattle.msrp_sim.specs.Simulated.{HasMade}
use Rattle.msrp_trace.specs.Gathering.{Gathers}
use Rattle.msrp_trace.specs.TraceText.{trace_text}
use Rattle.msrp_engine.specs.Inside.Known.{KeepKnown}
use Rattle.msrp_engine.proofs.sim.write_run.Given as goal

abbrev pub invariant-loop-turn : goal.invariant-loop-turn
invariant-loop-turn g l =
    (rows : List Row)
    × Gathers g.W.Write.contents [] l.fn.out l.text.text l.out (trace_text l.fn.version l.fn.plan rows)
    × HasMade l.simulation rows
    × (l.simulation.plan ≡ l.fn.plan)
    × (l.simulation.order ≡ l.fn.simulation.order)
    × (l.simulation.turn ≡ l._turn)
    × (l.text ≡ record { plan = l.fn.plan; version = l.fn.version; text = l.text.text })
    × (l.texts.plan ≡ l.fn.plan)
    × (l.texts.version ≡ l.fn.version)
    × KeepKnown l.simulation l.texts
