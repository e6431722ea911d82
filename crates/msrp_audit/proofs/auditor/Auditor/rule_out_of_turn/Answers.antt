use Rattle.msrp_plan.proofs.Common.{arith}
use Rattle.msrp_audit.proofs.Judging.{full_is, left_is, one_too_many, out_of_turn}
use Rattle.msrp_audit.proofs.auditor.Auditor.rule_out_of_turn.Goals as goal

pub returns-then-self-ticks : goal.returns-then-self-ticks
returns-then-self-ticks c = λ rows row h none out.
    let early = c.if-self-ticks.true in
    let size = c.ticks-ticks.ensures.value in
    let left = left_is c.self.inside c.args.self.now rows c.self.invariant c.self.view_is h none (omega (arith, early, size)) in
    out_of_turn c.args.self.now.plan rows row left (out left)

pub returns-else-self-ticks : goal.returns-else-self-ticks
returns-else-self-ticks c = λ rows row h none out.
    let late = c.if-self-ticks.false in
    let size = c.ticks-ticks.ensures.value in
    one_too_many c.args.self.now.plan rows row (full_is c.self.inside c.args.self.now rows c.self.invariant c.self.view_is h none (omega (arith, late, size)))
