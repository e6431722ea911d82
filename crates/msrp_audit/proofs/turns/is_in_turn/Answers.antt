use Rattle.std.proofs.Common.{◌<◌}
use Rattle.msrp_plan.proofs.Common.{arith}
use Rattle.msrp_audit.proofs.Judging.{turn_by_tick}
use Rattle.msrp_audit.proofs.Turned.{due_tick}
use Rattle.msrp_audit.proofs.turns.is_in_turn.Goals as goal
use Rattle.msrp_audit.proofs.turns.is_in_turn.Goals.{then-is_in_tick, else-is_in_tick}

pub returns-then-row-cores-clause-turn : goal.returns-then-row-cores-clause-turn
returns-then-row-cores-clause-turn c = λ pre size start ticks.
    let plan = c.args.plan.now in
    let r = c.args.row in
    let ok = c.cores-cores.ensures.plan in
    let cores = c.cores-cores.ensures.value in
    let now = c.if-row-cores.true in
    elim c.if-is_in_tick.branch [
      | then-is_in_tick w ↦
          let low : r.core.0 < plan.cores = omega (arith, now, cores) in
          let due = due_tick plan pre r.tick c.args.index c.cores-cores.result c.is_in_tick.result ok cores c.is_in_tick.ensures w.if-is_in_tick.true size in
          turn_by_tick plan pre r _ ok start.each due low (ticks r.core.0 low)
      | else-is_in_tick w ↦ let is = w.t-7-is in absurd (cc)
    ]
