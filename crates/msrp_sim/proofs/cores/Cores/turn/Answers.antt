use Rattle.std.proofs.Common.{◌≡◌, ◌<◌, ◌∙◌}
use Rattle.msrp_plan.proofs.Common.{Some, slice_get, length, refl, ap, sym, subst, with_item, PlanModel}
use Rattle.msrp_core.specs.Machine.{MachineModel}
use Rattle.msrp_sim.specs.Cores.{CoresModel, IsSomeTurn, Leaves, MakesNext, MakesTurn, StandOn, TakesTurn}
use Rattle.msrp_sim.specs.CoresView.{cores_view}
use Rattle.msrp_sim.proofs.OwnMachine.{has_machine, left}
use Rattle.msrp_sim.proofs.Repeating.{at_core, leaves}
use Rattle.msrp_sim.proofs.Turns.{next_legal}
use Rattle.msrp_sim.proofs.Standing.{stand_push}
use Rattle.msrp_sim.proofs.Keeping.{call_core, call_resource, cores_kept, few_drawn, some_turn}
use Rattle.msrp_sim.proofs.cores.Cores.turn.Goals as goal

pub turn_by-turned-requires-clause-tick : goal.turn_by-turned-requires-clause-tick
turn_by-turned-requires-clause-tick c =
    let m = cores_view c.self.inside in
    let x = c.index_mut-machine.result.now in
    let has = has_machine m c.args.core.0 x c.args.self.now c.self.invariant c.self.view_is c.requires.core c.index_mut-machine.ensures.value in
    let own = c.self.invariant.each c.args.core.0 x has in
    subst (λ (p : PlanModel). x.tick < p.ticks) (sym own.same_plan) (left m c.args.core.0 x c.args.self.now c.self.invariant c.self.view_is c.requires.core c.index_mut-machine.ensures.value c.requires.tick)

pub turn_by-turned-requires-clause-resources : goal.turn_by-turned-requires-clause-resources
turn_by-turned-requires-clause-resources c =
    let m = cores_view c.self.inside in
    let x = c.index_mut-machine.result.now in
    let has = has_machine m c.args.core.0 x c.args.self.now c.self.invariant c.self.view_is c.requires.core c.index_mut-machine.ensures.value in
    let own = c.self.invariant.each c.args.core.0 x has in
    c.resources-resources.ensures.value ∙ ap (λ (p : PlanModel). length p.resources) (sym own.same_plan)

pub note_turn-requires-clause-core : goal.note_turn-requires-clause-core
note_turn-requires-clause-core c =
    let m = cores_view c.self.inside in
    let x = c.index_mut-machine.result.now in
    let has = has_machine m c.args.core.0 x c.args.self.now c.self.invariant c.self.view_is c.requires.core c.index_mut-machine.ensures.value in
    call_core m c.args.core.0 x c.turn_by-turned.new.machine c.turn_by-turned.result.row c.turn_by-turned.result.call c.self.invariant has c.turn_by-turned.ensures

pub note_turn-requires-clause-resource : goal.note_turn-requires-clause-resource
note_turn-requires-clause-resource c =
    let m = cores_view c.self.inside in
    let x = c.index_mut-machine.result.now in
    let has = has_machine m c.args.core.0 x c.args.self.now c.self.invariant c.self.view_is c.requires.core c.index_mut-machine.ensures.value in
    call_resource m c.args.core.0 x c.turn_by-turned.new.machine c.turn_by-turned.result.row c.turn_by-turned.result.call c.self.invariant has c.turn_by-turned.ensures

pub note_turn-requires-clause-drawn : goal.note_turn-requires-clause-drawn
note_turn-requires-clause-drawn c = few_drawn (cores_view c.self.inside) c.self.invariant

-- the cores before the turn, and the machine of the core, which has ticks left
abbrev old : goal.After-result-1 → CoresModel
old c = cores_view c.self.inside

abbrev machine : goal.After-result-1 → MachineModel
machine c = c.index_mut-machine.result.now

has : (c : goal.After-result-1) → slice_get (old c).machines c.args.core.0 ≡ Some (machine c)
has c = has_machine (old c) c.args.core.0 (machine c) c.args.self.now c.self.invariant c.self.view_is c.requires.core c.index_mut-machine.ensures.value

has_left : (c : goal.After-result-1) → (machine c).tick < (old c).plan.ticks
has_left c = left (old c) c.args.core.0 (machine c) c.args.self.now c.self.invariant c.self.view_is c.requires.core c.index_mut-machine.ensures.value c.requires.tick

-- the cores after it
abbrev new : goal.After-result-1 → CoresModel
new c = cores_view (record { plan = c.self.inside.plan; machines = with_item c.self.inside.machines c.args.core.0 c.turn_by-turned.new.machine; queues = c.note_turn.new.queues })

abbrev makes : (c : goal.After-result-1) → MakesTurn (old c) c.args.core.0 c.turn_by-turned.result.row
makes c = record { before = machine c; after = c.turn_by-turned.new.machine; call = c.turn_by-turned.result.call; has = has c; turned = c.turn_by-turned.ensures }

abbrev takes : (c : goal.After-result-1) → TakesTurn (old c) (new c) c.args.core.0 c.turn_by-turned.result.row
takes c = record { plan = refl; made = makes c; machines = refl; same = c.note_turn.ensures.none; noted = c.note_turn.ensures.noted }

pub invariant_of-self : goal.invariant_of-self
invariant_of-self c = cores_kept (old c) (new c) c.args.core.0 c.turn_by-turned.result.row c.self.invariant (takes c) (has_left c)

pub returns-clause-next : goal.returns-clause-next
returns-clause-next c =
    subst (λ (o : CoresModel). MakesNext o c.args.core.0 c.turn_by-turned.result.row) c.self.view_is (λ rows stands due. next_legal (old c) c.args.core.0 c.turn_by-turned.result.row rows c.self.invariant stands due (makes c))

pub returns-clause-stand : goal.returns-clause-stand
returns-clause-stand c =
    subst (λ (o : CoresModel). StandOn o (new c) c.args.core.0 c.turn_by-turned.result.row) c.self.view_is (λ rows row stands due like legal. stand_push (old c) (new c) c.args.core.0 c.turn_by-turned.result.row row rows c.self.invariant stands due (takes c) like legal)

pub returns-clause-leaves : goal.returns-clause-leaves
returns-clause-leaves c = subst (λ (o : CoresModel). Leaves o (new c) c.turn_by-turned.result.row) c.self.view_is (leaves (old c) (new c) c.args.core.0 c.turn_by-turned.result.row c.self.invariant (takes c))

pub returns-clause-core : goal.returns-clause-core
returns-clause-core c = at_core (old c) (new c) c.args.core.0 c.turn_by-turned.result.row c.self.invariant (takes c)

pub returns-clause-turn : goal.returns-clause-turn
returns-clause-turn c =
    subst (λ (o : CoresModel). IsSomeTurn o.plan c.args.core.0 c.turn_by-turned.result.row) c.self.view_is
    (some_turn (old c) (new c) c.args.core.0 c.turn_by-turned.result.row c.self.invariant (takes c) (has_left c))
