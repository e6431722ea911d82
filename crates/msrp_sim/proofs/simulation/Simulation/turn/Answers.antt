use Rattle.std.proofs.Common.{◌≡◌, ◌+◌, ◌*◌, ◌<◌, ◌++◌, ◌∷◌}
use Rattle.msrp_plan.proofs.Common.{[], List, subst, arith}
use Rattle.msrp_plan.specs.declared.rows.Row.{Row}
use Rattle.msrp_sim.specs.Cores.{Leaves}
use Rattle.msrp_sim.specs.Simulated.{SimModel, HasMade}
use Rattle.msrp_sim.specs.SimView.{sim_view}
use Rattle.msrp_sim.proofs.Rounds.{tick_within}
use Rattle.msrp_sim.proofs.NextTurn.{low_core, made_turn, tick_left, turns_left}
use Rattle.msrp_sim.proofs.simulation.Simulation.turn.Goals as goal

pub core_at-core-requires-clause-tick : goal.core_at-core-requires-clause-tick
core_at-core-requires-clause-tick c = tick_within c.self.inside.plan.now.cores c.self.inside.plan.now.ticks c.self.inside.at.tick c.self.inside.at.place c.self.invariant.place (turns_left c.self.inside c.args.self.now c.self.view_is c.requires)

pub turn-requires-clause-core : goal.turn-requires-clause-core
turn-requires-clause-core c = low_core (sim_view c.self.inside) c.self.invariant.rows c.core_at-core.result.0 c.self.invariant.order (turns_left c.self.inside c.args.self.now c.self.view_is c.requires) c.core_at-core.ensures c.self.invariant.made

pub turn-requires-clause-tick : goal.turn-requires-clause-tick
turn-requires-clause-tick c = tick_left (sim_view c.self.inside) c.self.invariant.rows c.core_at-core.result.0 c.self.invariant.order (turns_left c.self.inside c.args.self.now c.self.view_is c.requires) c.core_at-core.ensures c.self.invariant.made

-- turns are left
left : (c : goal.After-turn) → (sim_view c.self.inside).turn < c.self.inside.plan.now.cores * c.self.inside.plan.now.ticks
left c = turns_left c.self.inside c.args.self.now c.self.view_is c.requires

-- the place of the turn behind
next : (c : goal.After-turn) → c.advance.new.self.tick * c.self.inside.plan.now.cores + c.advance.new.self.place ≡ (sim_view c.self.inside).turn + 1
next c = subst (λ k. c.advance.new.self.tick * k + c.advance.new.self.place ≡ c.self.inside.at.tick * k + c.self.inside.at.place + 1) c.cores.ensures.value c.advance.ensures.next

-- the simulation after the turn, which has made its row
abbrev after : goal.After-turn → SimModel
after c = sim_view (record { plan = c.self.inside.plan; order = c.self.inside.order; at = c.advance.new.self; cores = c.turn.new.self })

made_next : (c : goal.After-turn) (rows : List Row) → HasMade (sim_view c.self.inside) rows → HasMade (after c) (rows ++ c.turn.result ∷ [])
made_next c rows made = made_turn (sim_view c.self.inside) rows c.core_at-core.result.0 c.self.invariant.order (left c) c.core_at-core.ensures made c.turn.new.self c.turn.result _ (next c) c.turn.ensures.plan c.turn.ensures.next c.turn.ensures.stand

pub invariant_of-self : goal.invariant_of-self
invariant_of-self c =
    record {
      accepted = c.self.invariant.accepted;
      order = c.self.invariant.order;
      turns = let l = left c in let n = next c in omega (arith, l, n);
      place = subst (λ m. c.advance.new.self.place < m) c.cores.ensures.value c.advance.ensures.place;
      rows = c.self.invariant.rows ++ c.turn.result ∷ [];
      made = made_next c c.self.invariant.rows c.self.invariant.made;
    }

pub returns-clause-row : goal.returns-clause-row
returns-clause-row c = λ rows. subst (λ (s : SimModel). HasMade s rows → HasMade (after c) (rows ++ c.turn.result ∷ [])) c.self.view_is (made_next c rows)

pub returns-clause-leaves : goal.returns-clause-leaves
returns-clause-leaves c = subst (λ (s : SimModel). Leaves s.cores c.turn.new.self c.turn.result) c.self.view_is c.turn.ensures.leaves
