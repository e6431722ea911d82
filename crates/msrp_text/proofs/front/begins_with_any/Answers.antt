use Rattle.msrp_plan.proofs.Common.{arith, drop, length, starts_is, Decides-eqb}
use Rattle.msrp_text.proofs.Chunks.{front-fits, front-met}
use Rattle.msrp_text.proofs.front.begins_with_any.Goals as goal

pub returns-then-count-lt8-clause-begins : goal.returns-then-count-lt8-clause-begins
returns-then-count-lt8-clause-begins c = λ yes. (drop (length c.args.front.now) c.args.text.now, (starts_is Decides-eqb c.args.text.now c.args.front.now _ c.starts_with.ensures.value).0 yes)

pub returns-then-count-lt8-clause-finds : goal.returns-then-count-lt8-clause-finds
returns-then-count-lt8-clause-finds c = λ after is. (starts_is Decides-eqb c.args.text.now c.args.front.now _ c.starts_with.ensures.value).1 after is

pub returns-else-not-is_same-clause-begins : goal.returns-else-not-is_same-clause-begins
returns-else-not-is_same-clause-begins c = λ yes. front-met c.args.text.now c.args.front.now (c.is_same.ensures.same c.if-not-is_same.false)

pub returns-else-not-is_long_same-clause-begins : goal.returns-else-not-is_long_same-clause-begins
returns-else-not-is_long_same-clause-begins c = λ yes. front-met c.args.text.now c.args.front.now (c.is_long_same.ensures.same c.if-not-is_long_same.false)

pub returns-else-not-is_longest_same-clause-begins : goal.returns-else-not-is_longest_same-clause-begins
returns-else-not-is_longest_same-clause-begins c = λ yes. front-met c.args.text.now c.args.front.now (c.is_longest_same.ensures.same c.if-not-is_longest_same.false)

pub returns-then-text-count-clause-finds : goal.returns-then-text-count-clause-finds
returns-then-text-count-clause-finds c = λ after is. let fits = front-fits c.args.text.now c.args.front.now after is in absurd (omega (arith, fits, c.if-text-count.true))
