use Rattle.std.proofs.Common.{◌≡◌, ◌+◌, ◌*◌, ◌<◌, ◌++◌, ◌∷◌, ◌∙◌}
use Rattle.msrp_plan.proofs.Common.{[], List, Option, Some, None, IfNone, ap, sym, subst, arith}
use Rattle.msrp_plan.specs.declared.rows.Row.{Row}
use Rattle.msrp_sim.specs.Cores.{CoresModel, Leaves, known_row}
use Rattle.msrp_sim.specs.Simulated.{SimModel, HasMade}
use Rattle.msrp_sim.specs.SimView.{sim_view}
use Rattle.msrp_sim.proofs.Rounds.{tick_within}
use Rattle.msrp_sim.proofs.NextTurn.{is_due, low_core, made_turn, tick_left, turns_left}
use Rattle.msrp_sim.proofs.Repeating.{known_by}
use Rattle.msrp_sim.proofs.simulation.Simulation.repeat.Goals as goal

if_none : {A P : Type 0} (o : Option A) → P → IfNone o P
if_none None p = p
if_none (Some a) p = tt

pub core_at-core-requires-clause-tick : goal.core_at-core-requires-clause-tick
core_at-core-requires-clause-tick c = tick_within c.self.inside.plan.now.cores c.self.inside.plan.now.ticks c.self.inside.at.tick c.self.inside.at.place c.self.invariant.place (turns_left c.self.inside c.args.self.now c.self.view_is c.requires)

pub repeat-requires-clause-core : goal.repeat-requires-clause-core
repeat-requires-clause-core c = low_core (sim_view c.self.inside) c.self.invariant.rows c.core_at-core.result.0 c.self.invariant.order (turns_left c.self.inside c.args.self.now c.self.view_is c.requires) c.core_at-core.ensures c.self.invariant.made

pub repeat-requires-clause-tick : goal.repeat-requires-clause-tick
repeat-requires-clause-tick c = tick_left (sim_view c.self.inside) c.self.invariant.rows c.core_at-core.result.0 c.self.invariant.order (turns_left c.self.inside c.args.self.now c.self.view_is c.requires) c.core_at-core.ensures c.self.invariant.made

pub invariant_of-self : goal.invariant_of-self
invariant_of-self c =
    let made = subst (λ (m : CoresModel). HasMade (sim_view (record { plan = c.self.inside.plan; order = c.self.inside.order; at = c.self.inside.at; cores = m })) c.self.invariant.rows) (sym c.in_err-row.ensures.none) c.self.invariant.made in
    record { accepted = c.self.invariant.accepted; order = c.self.invariant.order; turns = c.self.invariant.turns; place = c.self.invariant.place; rows = c.self.invariant.rows; made = made }

-- turns are left
left : (c : goal.After-advance) → (sim_view c.self.inside).turn < c.self.inside.plan.now.cores * c.self.inside.plan.now.ticks
left c = turns_left c.self.inside c.args.self.now c.self.view_is c.requires

-- the place of the turn behind
next : (c : goal.After-advance) → c.advance.new.self.tick * c.self.inside.plan.now.cores + c.advance.new.self.place ≡ (sim_view c.self.inside).turn + 1
next c = subst (λ k. c.advance.new.self.tick * k + c.advance.new.self.place ≡ c.self.inside.at.tick * k + c.self.inside.at.place + 1) c.cores.ensures.value c.advance.ensures.next

-- the simulation after the turn, which has made its row
abbrev after : goal.After-advance → SimModel
after c = sim_view (record { plan = c.self.inside.plan; order = c.self.inside.order; at = c.advance.new.self; cores = c.repeat.new.self })

made_next : (c : goal.After-advance) (rows : List Row) → HasMade (sim_view c.self.inside) rows → HasMade (after c) (rows ++ c.in_ok-row.row ∷ [])
made_next c rows made = made_turn (sim_view c.self.inside) rows c.core_at-core.result.0 c.self.invariant.order (left c) c.core_at-core.ensures made c.repeat.new.self c.in_ok-row.row _ (next c) c.repeat.ensures.plan c.in_ok-row.ensures.next c.in_ok-row.ensures.stand

pub invariant_of-self-2 : goal.invariant_of-self-2
invariant_of-self-2 c =
    record {
      accepted = c.self.invariant.accepted;
      order = c.self.invariant.order;
      turns = let l = left c in let n = next c in omega (arith, l, n);
      place = subst (λ m. c.advance.new.self.place < m) c.cores.ensures.value c.advance.ensures.place;
      rows = c.self.invariant.rows ++ c.in_ok-row.row ∷ [];
      made = made_next c c.self.invariant.rows c.self.invariant.made;
    }

pub returns-clause-known : goal.returns-clause-known
returns-clause-known c =
    let row = c.in_ok-row.ensures.next c.self.invariant.rows c.self.invariant.made.stands (is_due (sim_view c.self.inside) c.self.invariant.rows c.core_at-core.result.0 c.self.invariant.order (left c) c.core_at-core.ensures c.self.invariant.made) in
    let known = known_by c.self.inside.cores.queues c.core_at-core.result.0 (known_row c.self.inside.cores c.core_at-core.result.0) c.in_ok-row.row (sym c.repeat.ensures.known ∙ c.in_ok-row.was) in
    subst (λ (s : SimModel). known_row s.cores c.in_ok-row.row.core.0 ≡ Some c.in_ok-row.row) c.self.view_is (ap (known_row c.self.inside.cores) row.core ∙ known)

pub returns-clause-leaves : goal.returns-clause-leaves
returns-clause-leaves c = subst (λ (s : SimModel). Leaves s.cores c.repeat.new.self c.in_ok-row.row) c.self.view_is c.in_ok-row.ensures.leaves

pub returns-clause-row : goal.returns-clause-row
returns-clause-row c = λ rows. subst (λ (s : SimModel). HasMade s rows → HasMade (after c) (rows ++ c.in_ok-row.row ∷ [])) c.self.view_is (made_next c rows)

pub returns-in_err-row-clause-none : goal.returns-in_err-row-clause-none
returns-in_err-row-clause-none c = if_none c.from_residual.result (ap (λ (m : CoresModel). sim_view (record { plan = c.self.inside.plan; order = c.self.inside.order; at = c.self.inside.at; cores = m })) c.in_err-row.ensures.none ∙ c.self.view_is)
