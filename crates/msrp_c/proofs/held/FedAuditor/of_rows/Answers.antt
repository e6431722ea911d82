use Rattle.msrp_plan.proofs.Common.{sym, subst, take, take_all, take_more}
use Rattle.msrp_c.specs.Feeding.{IsFed}
use Rattle.msrp_c.proofs.held.FedAuditor.of_rows.Goals as goal

pub loop-turn-init : goal.loop-turn-init
loop-turn-init c = c.in_ok-fed.ensures

pub loop-turn-preserved : goal.loop-turn-preserved
loop-turn-preserved c = subst (λ turns. IsFed c.args.loaded.plan.now turns c.feed-so_far.new.self) (sym (take_more c.args.turns.now c.loop-turn.turn-index _ c.loop-turn-test.true)) (c.feed-so_far.ensures.fed c.args.loaded.plan.now (take c.loop-turn.turn-index c.args.turns.now) c.loop-turn.invariant)

pub returns : goal.returns
returns c = subst (λ turns. IsFed c.args.loaded.plan.now turns c.loop-turn.fed) (take_all c.loop-turn.turn-index c.args.turns.now c.loop-turn-test.false) c.loop-turn.invariant
