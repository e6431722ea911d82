use Rattle.msrp_plan.proofs.Common.{arith}
use Rattle.msrp_text.proofs.Chunks.{front-fits, front-met}
use Rattle.msrp_text.proofs.front.begins_with_long.Goals as goal

pub returns-then-text-count-clause-finds : goal.returns-then-text-count-clause-finds
returns-then-text-count-clause-finds c = λ after is. let fits = front-fits c.args.text.now c.args.front.now after is in absurd (omega (arith, fits, c.if-text-count.true))

pub returns-clause-begins : goal.returns-clause-begins
returns-clause-begins c = λ yes. front-met c.args.text.now c.args.front.now (c.is_long_same.ensures.same c.if-not-is_long_same.false)
