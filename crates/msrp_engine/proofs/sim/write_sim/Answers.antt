use Rattle.std.proofs.Common.{◌≡◌}
use Rattle.msrp_plan.proofs.Common.{rules, subst, inr}
use Rattle.msrp_faults.specs.Outcomes.{written_status}
use Rattle.msrp_engine.specs.Simulation.{WritesRun}
use Rattle.msrp_engine.proofs.sim.write_sim.Goals as goal

pub returns-in_err-write_run-clause-run : goal.returns-in_err-write_run-clause-run
returns-in_err-write_run-clause-run g c =
    let status : c.from_residual-in_err-write_run.result ≡ written_status c.write_run.new.out = search rules in
    inr (c.write_run.ensures.plan, subst (λ o. WritesRun g.W.Write.contents c.args.version c.args.plan.now o c.args.out.now c.write_run.new.out) c.in_ok-simulation.ensures.order c.write_run.ensures.run, status)

pub returns-clause-run : goal.returns-clause-run
returns-clause-run g c =
    inr (c.write_run.ensures.plan, subst (λ o. WritesRun g.W.Write.contents c.args.version c.args.plan.now o c.args.out.now c.write_run.new.out) c.in_ok-simulation.ensures.order c.write_run.ensures.run, search rules)
