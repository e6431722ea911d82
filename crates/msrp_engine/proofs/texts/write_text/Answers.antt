use Rattle.msrp_plan.proofs.Common.{inl, inr}
use Rattle.msrp_engine.specs.Inside.Texts.{text_of}
use Rattle.msrp_engine.specs.Simulation.{TextAnswers}
use Rattle.msrp_engine.proofs.Answered.{from_plan}
use Rattle.msrp_engine.proofs.texts.write_text.Goals as goal

pub returns-clause-answer : goal.returns-clause-answer
returns-clause-answer g c = λ bytes told. elim c.write_gathered.ensures [
  | inl refused ↦ inr (inl refused.0)
  | inr written ↦ inr (inr (from_plan (λ x. TextAnswers g.W.Write.contents (text_of c.args.which) x c.args.out.now c.write_gathered.new.out c.write_gathered.result) c.in_ok-plan.plan _ (c.in_ok-plan.ensures.answer bytes told) (written.1, written.2)))
]
