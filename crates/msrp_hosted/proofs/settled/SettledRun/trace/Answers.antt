use Rattle.msrp_plan.proofs.Common.{IfOk, subst, Result, Ok, Err}
use Rattle.msrp_plan.specs.Laws.{KeepsLaws}
use Rattle.msrp_plan.proofs.Runs.KeptLaws.{keeps_laws}
use Rattle.msrp_hosted.specs.Hosted.{SettledRunModel}
use Rattle.msrp_hosted.proofs.settled.SettledRun.trace.Goals as goal

-- what a good answer says, said in other words
in_words : {T E : Type 0} (r : Result T E) (P Q : T → Type 0) → IfOk r P → ((v : T) → P v → Q v) → IfOk r Q
in_words (Ok v) P Q h f = f v h
in_words (Err e) P Q h f = tt

pub returns-clause-laws : goal.returns-clause-laws
returns-clause-laws c = subst (λ (s : SettledRunModel). IfOk c.merge.result (λ trace. KeepsLaws s.plan trace.rows.items)) c.self.view_is (in_words c.merge.result _ _ c.merge.ensures.run (λ trace run. keeps_laws _ _ c.self.invariant.accepted run))
