use Rattle.std.proofs.Common.{◌≡◌, ◌++◌, ◌∷◌}
use Rattle.msrp_plan.proofs.Common.{[], refl, subst}
use Rattle.msrp_run.proofs.Common.{HasTurned, core_with}
use Rattle.msrp_run.proofs.Working.{may_turn, has_stopped, next_tick}
use Rattle.msrp_run.proofs.work.begin.Goals as goal

pub turn-back-requires : goal.turn-back-requires
turn-back-requires g c = may_turn _ _ _ c.args.machine.now c.args.log.now c.args.seat c.look.new.seat c.requires c.tick-tick.ensures.seat (c.look.ensures.go c.in-Go.is)

pub returns-in-Stopped-clause-stopped : goal.returns-in-Stopped-clause-stopped
returns-in-Stopped-clause-stopped g c _ = (has_stopped _ _ _ c.args.machine.now c.args.log.now c.args.seat c.look.new.seat c.requires (c.look.ensures.stopped c.in-Stopped.is) (λ d b of_core. c.look.ensures.start d b c.in-Stopped.is of_core), refl, refl)

pub returns-in-Go-clause-turn : goal.returns-in-Go-clause-turn
returns-in-Go-clause-turn g c _ _ = record {
  before = core_with c.args.machine.now c.args.log.now c.args.seat;
  at_work = c.requires;
  row = c.turn-back.result.0;
  turned = subst (λ s. HasTurned c.args.board.now (core_with c.args.machine.now c.args.log.now s) c.turn-back.result.0 (core_with c.turn-back.new.machine c.turn-back.new.log c.turn-back.result.1)) (c.look.ensures.go c.in-Go.is) c.turn-back.ensures;
}

pub returns-in-Go-clause-logged : goal.returns-in-Go-clause-logged
returns-in-Go-clause-logged g c row is =
    let same : c.turn-back.result.0 ≡ row = cc in
    (c.turn-back.ensures.place, subst (λ r. c.turn-back.new.log ≡ record c.args.log.now { turns = c.args.log.now.turns ++ record { row = r; place = c.turn-back.ensures.place } ∷ [] }) same c.turn-back.ensures.logged)

pub returns-in-Go-clause-next : goal.returns-in-Go-clause-next
returns-in-Go-clause-next g c _ _ = next_tick _ _ _ c.args.machine.now c.turn-back.new.machine c.args.log.now c.turn-back.new.log c.args.seat c.look.new.seat c.turn-back.result.1 c.turn-back.result.0 c.requires c.turn-back.ensures
