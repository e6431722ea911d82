-- A turn of a copy of a core's machine.
use Rattle.std.proofs.Common.{◌≡◌, ◌<◌, ◌∙◌}
use Rattle.msrp_plan.proofs.Common.{ℕ, Option, Some, slice_get, get_or, length, ap, sym, subst, PlanModel}
use Rattle.msrp_plan.specs.declared.rows.Row.{Row}
use Rattle.msrp_core.specs.Machine.{MachineModel}
use Rattle.msrp_core.specs.declared.port.PortCall.{PortCall}
use Rattle.msrp_sim.specs.Cores.{CoresModel, AreCores, IsMachineOf, MakesNext, MakesTurn}
use Rattle.msrp_sim.specs.TurnPorts.{HasTurned}
use Rattle.msrp_sim.proofs.OwnMachine.{has_machine, left}
use Rattle.msrp_sim.proofs.Turns.{next_legal, turn_after}

module _ (m : CoresModel) (c : ℕ) (x copy : MachineModel) (now : CoresModel) (cores : AreCores m) (is : m ≡ now) (low : c < now.plan.cores) (value : x ≡ get_or m.machines c x) (same : copy ≡ x) where
  has : slice_get m.machines c ≡ Some copy
  has = has_machine m c x now cores is low value ∙ ap (λ y. Some y) (sym same)

  its : IsMachineOf m.plan c copy
  its = cores.each c copy has

  pub copied_ticks : ((y : MachineModel) → slice_get now.machines c ≡ Some y → y.tick < now.plan.ticks) → copy.tick < copy.plan.ticks
  copied_ticks ticks = subst (λ (p : PlanModel). copy.tick < p.ticks) (sym its.same_plan) (subst (λ (y : MachineModel). y.tick < m.plan.ticks) (sym same) (left m c x now cores is low value ticks))

  pub copied_resources : length m.plan.resources ≡ length copy.plan.resources
  copied_resources = ap (λ (p : PlanModel). length p.resources) (sym its.same_plan)

  abbrev makes : (after : MachineModel) (r : Row) (call : Option PortCall) → HasTurned m.queues copy after r call → MakesTurn m c r
  makes after r call turned = record { before = copy; after = after; call = call; has = has; turned = turned }

  pub copied_core : (after : MachineModel) (r : Row) (call : Option PortCall) → HasTurned m.queues copy after r call → r.core.0 ≡ c
  copied_core after r call turned = (turn_after m c r cores (makes after r call turned) its.log its.stands).core

  pub copied_next : (after : MachineModel) (r : Row) (call : Option PortCall) → HasTurned m.queues copy after r call → MakesNext now c r
  copied_next after r call turned = subst (λ (n : CoresModel). MakesNext n c r) is (λ rows stands due. next_legal m c r rows cores stands due (makes after r call turned))
