use Rattle.std.proofs.Common.{◌≡◌}
use Rattle.msrp_plan.proofs.Common.{true, list_all, subst, sym, arith}
use Rattle.msrp_trace.specs.TraceText.{is_named}
use Rattle.msrp_trace.proofs.NamedRows.{run_named}
use Rattle.msrp_c.proofs.runs.text_of.Goals as goal

pub write_trace-requires-clause-named : goal.write_trace-requires-clause-named
write_trace-requires-clause-named c =
    let run = c.in_ok-trace.ensures.run in
    let rows = c.in_ok-trace.trace.rows.items in
    let size = run.size in
    subst (λ p. list_all (is_named p) rows ≡ true) (sym c.plan.ensures.plan) (run_named c.args.settled.now.plan rows c.plan.ensures.accepted (record { size = omega (arith, size); each = run.each }))
