use Rattle.msrp_plan.proofs.Common.{arith, drop, length, starts_is, Decides-eqb}
use Rattle.msrp_text.proofs.Chunks.{front-fits, front-met, front-same}
use Rattle.msrp_text.proofs.front.begins_with.Goals as goal

pub returns-then-count-lt4-clause-begins : goal.returns-then-count-lt4-clause-begins
returns-then-count-lt4-clause-begins c = λ yes. (drop (length c.args.front.now) c.args.text.now, (starts_is Decides-eqb c.args.text.now c.args.front.now _ c.starts_with.ensures.value).0 yes)

pub returns-then-count-lt4-clause-finds : goal.returns-then-count-lt4-clause-finds
returns-then-count-lt4-clause-finds c = λ after is. (starts_is Decides-eqb c.args.text.now c.args.front.now _ c.starts_with.ensures.value).1 after is

pub returns-clause-begins : goal.returns-clause-begins
returns-clause-begins c = λ yes. front-met c.args.text.now c.args.front.now (c.is_short_same.ensures.same yes)

pub returns-clause-finds : goal.returns-clause-finds
returns-clause-finds c = λ after is. c.is_short_same.ensures.finds (front-same c.args.text.now c.args.front.now after is)

pub returns-then-text-count-clause-finds : goal.returns-then-text-count-clause-finds
returns-then-text-count-clause-finds c = λ after is. let fits = front-fits c.args.text.now c.args.front.now after is in absurd (omega (arith, fits, c.if-text-count.true))
