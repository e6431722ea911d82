use Rattle.msrp_plan.proofs.Common.{List, length, subst, log_of}
use Rattle.msrp_plan.specs.declared.rows.Row.{Row as TraceRow}
use Rattle.msrp_core.specs.CoreStates.{IsCoreState}
use Rattle.msrp_sim.specs.Cores.{CoresModel, StandFor}
use Rattle.msrp_sim.specs.CoresView.{cores_view}
use Rattle.msrp_sim.proofs.CoreStates.{core_state}
use Rattle.msrp_sim.proofs.OwnMachine.{has_machine}
use Rattle.msrp_sim.proofs.cores.Cores.state.Goals as goal

pub returns : goal.returns
returns c =
    let m = cores_view c.self.inside in
    let x = c.index.result.now in
    let has = has_machine m c.args.core.0 x c.args.self.now c.self.invariant c.self.view_is c.requires c.index.ensures in
    let P : CoresModel → Type 0 = λ o. (rows : List TraceRow) → StandFor o rows → IsCoreState o.plan c.args.core.0 (length (log_of c.args.core.0 rows)) rows c.state.result in
    subst P c.self.view_is (λ rows stands. core_state m rows c.args.core.0 x c.state.result c.self.invariant has stands c.state.ensures)
