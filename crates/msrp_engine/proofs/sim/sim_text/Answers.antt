use Rattle.msrp_plan.proofs.Common.{inl, inr}
use Rattle.msrp_engine.proofs.SimAnswers.{sim_from_plan}
use Rattle.msrp_engine.proofs.sim.sim_text.Goals as goal

pub returns-clause-answer : goal.returns-clause-answer
returns-clause-answer g c = λ bytes told. elim c.write_in_order.ensures.answer [
  | inl refused ↦ inr (inl refused.0)
  | inr answered ↦ inr (inr (sim_from_plan g.W.Write.contents c.args.version c.args.order.now c.in_ok-plan.plan _ c.args.out.now c.write_in_order.new.out _ (c.in_ok-plan.ensures.answer bytes told) answered))
]

pub returns-clause-always : goal.returns-clause-always
returns-clause-always g c = record {
  read = ((λ e. absurd (c.write_in_order.ensures.unread e)), (λ failed. let no = c.in_ok-plan.ensures.read.1 failed in absurd (cc)));
  ends = c.write_in_order.ensures.ends;
  silent = c.write_in_order.ensures.silent;
}
