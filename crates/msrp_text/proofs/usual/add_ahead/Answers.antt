use Rattle.std.proofs.Common.{◌≡◌, ◌==◌}
use Rattle.msrp_plan.proofs.Common.{arith, false, length, ne_eqb}
use Rattle.msrp_text.proofs.UsualLines.{step-added}
use Rattle.msrp_text.proofs.usual.add_ahead.Goals as goal

pub returns-in-Some-clause-added : goal.returns-in-Some-clause-added
returns-in-Some-clause-added c =
    let some : (length c.args.builder.now.tasks == 0) ≡ false = ne_eqb _ 0 (λ e. omega (arith, c.if-tasks-eq0.false, c.tasks.ensures, e)) in
    step-added c.args.version c.args.builder.now _ c.args.text.now c.in-Some.step _ _ some c.in-Some.ensures c.op.ensures.judged c.op.ensures.added
