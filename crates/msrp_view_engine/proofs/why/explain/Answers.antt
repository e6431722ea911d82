use Rattle.msrp_view_engine.proofs.Common.{IsExplainedOf, csv_records, plan_of, settled_from_plan}
use Rattle.msrp_view_engine.proofs.why.explain.Goals as goal

pub returns-clause-explained : goal.returns-clause-explained
returns-clause-explained g c = λ plan_bytes trace_bytes plan trace.
    settled_from_plan (λ read answer. IsExplainedOf read (csv_records trace_bytes) answer) c.in_ok-plan.plan (plan_of (csv_records plan_bytes)) c.explain_all-words.result c.settled.result
    (c.in_ok-plan.ensures.answer plan_bytes plan) c.settled.ensures.same (c.explain_all-words.ensures.explained trace_bytes trace)
