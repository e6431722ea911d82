use Rattle.std.proofs.Common.{◌++◌, ◌≡◌, ◌≤◌, ◌∙◌}
use Rattle.msrp_plan.proofs.Common.{arith, List, sym, ap, subst, length, take, drop, All, take-append-le, take-length}
use Rattle.msrp_text_tests.specs.declared.board.Player.{Player}
use Rattle.msrp_board.specs.Seats.{IsCoreSeatOn}
use Rattle.msrp_text_tests.proofs.board.run_laps.Goals as goal

pub loop-tick-preserved : goal.loop-tick-preserved
loop-tick-preserved g c =
    let new : List Player = c.lap_all.new.players in
    let long : c.loop-tick.players.len ≡ length new = sym (c.lap_all.auto.players ∙ c.as_mut_slice.ensures.len) in
    let same : take c.loop-tick.players.len (new ++ drop (length new) c.loop-tick.players.items) ≡ new = ap (λ k. take k (new ++ drop (length new) c.loop-tick.players.items)) long ∙ take-append-le (length new) new (drop (length new) c.loop-tick.players.items) (omega arith) ∙ take-length new in
    subst (λ (xs : List Player). All (λ p. IsCoreSeatOn c.args.board.now p.seat) xs × (length xs ≤ 8)) (sym same) (c.lap_all.ensures, (let few = c.loop-tick.invariant.1 in let was = ap length c.as_mut_slice.ensures.value in let now = c.lap_all.auto.players in omega (arith, few, was, now)))
