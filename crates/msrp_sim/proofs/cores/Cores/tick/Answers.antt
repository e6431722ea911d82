use Rattle.std.proofs.Common.{◌≤◌}
use Rattle.msrp_plan.proofs.Common.{sym, subst}
use Rattle.msrp_sim.specs.Cores.{CoresModel}
use Rattle.msrp_sim.specs.CoresView.{cores_view}
use Rattle.msrp_sim.proofs.OwnMachine.{has_machine}
use Rattle.msrp_sim.proofs.cores.Cores.tick.Goals as goal

pub returns-clause-most : goal.returns-clause-most
returns-clause-most c =
    let m = cores_view c.self.inside in
    let x = c.index.result.now in
    let has = has_machine m c.args.core.0 x c.args.self.now c.self.invariant c.self.view_is c.requires c.index.ensures in
    subst (λ (o : CoresModel). c.tick.result ≤ o.plan.ticks) c.self.view_is (subst (λ n. n ≤ m.plan.ticks) (sym c.tick.ensures) (c.self.invariant.each c.args.core.0 x has).left)
