use Rattle.msrp_plan.proofs.Common.{inl, inr}
use Rattle.msrp_engine.specs.Running.{RunAnswers}
use Rattle.msrp_engine.proofs.Answered.{from_plan}
use Rattle.msrp_engine.proofs.run.run_text_by.Goals as goal

pub returns-clause-answer : goal.returns-clause-answer
returns-clause-answer g c = λ bytes told. elim c.write_run.ensures [
  | inl refused ↦ elim refused.0 [
    | inl memory ↦ inr (inl memory)
    | inr threads ↦ inr (inr (inl threads))
  ]
  | inr written ↦ inr (inr (inr (from_plan (λ x. RunAnswers g.W.Write.contents c.args.version x c.args.out.now c.write_run.new.out c.write_run.result) c.in_ok-plan.plan _ (c.in_ok-plan.ensures.answer bytes told) (written.1, written.2))))
]
