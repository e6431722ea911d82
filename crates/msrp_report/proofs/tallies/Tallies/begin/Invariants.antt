use Rattle.std.proofs.Common.{◌≡◌}
use Rattle.msrp_plan.proofs.Common.{List}
use Rattle.msrp_plan.specs.declared.rows.Row.{Row as TraceRow}
use Rattle.msrp_report.proofs.Common.{HasReleased, due_count}
use Rattle.msrp_report.proofs.tallies.Tallies.begin.Given as goal

abbrev pub invariant-loop-self : goal.invariant-loop-self
invariant-loop-self l = record {
  begun : l.self.begun ≡ l.fn.self.begun;
  told : (rows : List TraceRow) → HasReleased l.plan rows l.fn.self → HasReleased l.plan rows l.self;
}

abbrev pub decreases-loop-self : goal.decreases-loop-self
decreases-loop-self l = due_count l.self
