use Rattle.std.proofs.Common.{◌≡◌, ◌<◌, ◌∙◌}
use Rattle.msrp_plan.proofs.Common.{Some, slice_get, IfSome, IfNone, ap, sym, subst, PlanModel}
use Rattle.msrp_sim.specs.Cores.{CoresModel, Leaves, MakesNext, StandOn, again_of, known_row}
use Rattle.msrp_core.specs.Machine.{MachineModel, next_known}
use Rattle.msrp_sim.specs.CoresView.{cores_view}
use Rattle.msrp_sim.specs.TurnPorts.{unless_granted}
use Rattle.msrp_sim.proofs.OwnMachine.{has_machine, left}
use Rattle.msrp_sim.proofs.Repeating.{core_if, with_machine, none_if, kept_if, leaves_if, next_if, stand_if}
use Rattle.msrp_sim.proofs.cores.Cores.repeat.Goals as goal

pub repeat_by-requires : goal.repeat_by-requires
repeat_by-requires c =
    let m = cores_view c.self.inside in
    let x = c.index_mut-machine.result.now in
    let has = has_machine m c.args.core.0 x c.args.self.now c.self.invariant c.self.view_is c.requires.core c.index_mut-machine.ensures.value in
    let own = c.self.invariant.each c.args.core.0 x has in
    subst (λ (p : PlanModel). x.tick < p.ticks) (sym own.same_plan) (left m c.args.core.0 x c.args.self.now c.self.invariant c.self.view_is c.requires.core c.index_mut-machine.ensures.value c.requires.tick)

-- the cores before the turn, and the machine of the core, which has ticks left
abbrev old : goal.After-self-1 → CoresModel
old c = cores_view c.self.inside

abbrev machine : goal.After-self-1 → MachineModel
machine c = c.index_mut-machine.result.now

has : (c : goal.After-self-1) → slice_get (old c).machines c.args.core.0 ≡ Some (machine c)
has c = has_machine (old c) c.args.core.0 (machine c) c.args.self.now c.self.invariant c.self.view_is c.requires.core c.index_mut-machine.ensures.value

has_left : (c : goal.After-self-1) → (machine c).tick < (old c).plan.ticks
has_left c = left (old c) c.args.core.0 (machine c) c.args.self.now c.self.invariant c.self.view_is c.requires.core c.index_mut-machine.ensures.value c.requires.tick

pub invariant_of-self : goal.invariant_of-self
invariant_of-self c = kept_if (old c) c.args.core.0 (machine c) c.repeat_by.new.machine c.repeat_by.result c.self.invariant (has c) (has_left c) c.repeat_by.ensures.none c.repeat_by.ensures.repeated

pub returns-clause-none : goal.returns-clause-none
returns-clause-none c = subst (λ (o : CoresModel). IfNone c.repeat_by.result (with_machine (old c) c.args.core.0 c.repeat_by.new.machine ≡ o)) c.self.view_is (none_if (old c) c.args.core.0 (machine c) c.repeat_by.new.machine c.repeat_by.result (has c) c.repeat_by.ensures.none)

pub returns-clause-known : goal.returns-clause-known
returns-clause-known c =
    subst (λ (o : CoresModel). c.repeat_by.result ≡ unless_granted o.queues c.args.core.0 (known_row o c.args.core.0)) c.self.view_is
    (c.repeat_by.ensures.known ∙ (ap (λ k. unless_granted (old c).queues k (next_known (machine c))) (c.self.invariant.each c.args.core.0 (machine c) (has c)).core ∙ sym (ap (λ o. unless_granted (old c).queues c.args.core.0 (again_of o)) (has c))))

pub returns-clause-leaves : goal.returns-clause-leaves
returns-clause-leaves c = subst (λ (o : CoresModel). IfSome c.repeat_by.result (Leaves o (with_machine (old c) c.args.core.0 c.repeat_by.new.machine))) c.self.view_is (leaves_if (old c) c.args.core.0 (machine c) c.repeat_by.new.machine c.repeat_by.result c.self.invariant (has c) c.repeat_by.ensures.repeated)

pub returns-clause-next : goal.returns-clause-next
returns-clause-next c =
    subst (λ (o : CoresModel). IfSome c.repeat_by.result (MakesNext o c.args.core.0)) c.self.view_is (next_if (old c) c.args.core.0 (machine c) c.repeat_by.new.machine c.repeat_by.result c.self.invariant (has c) c.repeat_by.ensures.repeated)

pub returns-clause-stand : goal.returns-clause-stand
returns-clause-stand c =
    subst (λ (o : CoresModel). IfSome c.repeat_by.result (StandOn o (with_machine (old c) c.args.core.0 c.repeat_by.new.machine) c.args.core.0)) c.self.view_is (stand_if (old c) c.args.core.0 (machine c) c.repeat_by.new.machine c.repeat_by.result c.self.invariant (has c) c.repeat_by.ensures.repeated)

pub returns-clause-core : goal.returns-clause-core
returns-clause-core c = core_if (old c) c.args.core.0 (machine c) c.repeat_by.new.machine c.repeat_by.result c.self.invariant (has c) c.repeat_by.ensures.repeated
