use Rattle.std.proofs.Common.{◌<◌, ◌/◌, ◌∙◌}
use Rattle.msrp_plan.proofs.Common.{length, get_or, sym, ap, arith, refl, true≢false}
use Rattle.msrp_sim.proofs.Given.{counted_more, due_in}
use Rattle.msrp_sim.proofs.orders.are_turns.Goals.{then-core-cores-via-then-core-cores, then-core-cores-via-else-core-cores+then-turns-core}
use Rattle.msrp_sim.proofs.orders.are_turns.Goals as goal

pub returns-then-core-cores : goal.returns-then-core-cores
returns-then-core-cores c = (
  λ h. absurd (true≢false (sym h)),
  λ order.
      let within : c.loop-turn.turn < length c.args.cores.now = omega arith in
      let due = due_in c.args.plan.now c.args.cores.now c.loop-turn.turns c.loop-turn.turn (get_or c.args.cores.now c.loop-turn.turn 0) c.loop-turn.invariant c.cores.ensures.plan.draft.cores.1 within refl order in
      absurd (elim c.then-core-cores.branch [
        | then-core-cores-via-then-core-cores w ↦ let d = due.0 in let h = w.if-core-cores.true in let e = c.cores-in-loop-turn.ensures.value in omega (arith, d, h, e)
        | then-core-cores-via-else-core-cores+then-turns-core w ↦ let d = due.1 in w.if-turns-core.true (d ∙ sym (ap (λ m. c.loop-turn.turn / m) w.cores-else-core-cores.ensures.value))
      ]),
)

pub loop-turn-preserved : goal.loop-turn-preserved
loop-turn-preserved c =
    let within : c.loop-turn.turn < length c.args.cores.now = omega arith in
    let low : get_or c.args.cores.now c.loop-turn.turn 0 < c.args.plan.now.cores = let h = c.if-core-cores.false in let e = c.cores-in-loop-turn.ensures.value in omega (arith, h, e) in
    counted_more c.args.plan.now c.args.cores.now c.loop-turn.turns c.loop-turn.turn (get_or c.args.cores.now c.loop-turn.turn 0) c.loop-turn.invariant within refl c.cores.ensures.plan.draft.cores.1 low
    (c.if-turns-core.false ∙ ap (λ m. c.loop-turn.turn / m) c.cores-else-core-cores.ensures.value)
