use Rattle.msrp_audit.proofs.Judging.{turn_by_tick}
use Rattle.msrp_audit.proofs.Turned.{due_tick}
use Rattle.std.proofs.Common.{◌∙◌}
use Rattle.msrp_audit.proofs.core_rows.is_in_turn.Goals as goal

pub returns-then-is_in_tick-clause-turn : goal.returns-then-is_in_tick-clause-turn
returns-then-is_in_tick-clause-turn c = λ pre size start stands.
    let plan = c.args.plan.now in
    let due = due_tick plan pre c.args.row.tick c.args.index c.cores.result c.is_in_tick.result c.cores.ensures.plan c.cores.ensures.value c.is_in_tick.ensures c.if-is_in_tick.true size in
    turn_by_tick plan pre c.args.row c.tick.result c.cores.ensures.plan start.each due c.requires.core (c.tick.ensures ∙ stands.tick)
