use Rattle.msrp_view_engine.proofs.Common.{IsDrawingOf, csv_records, plan_of, settled_from_plan}
use Rattle.msrp_view_engine.proofs.view.drawing_of_texts.Goals as goal

pub returns-clause-found : goal.returns-clause-found
returns-clause-found g c = λ plan_bytes trace_bytes plan trace.
    settled_from_plan (λ read answer. IsDrawingOf read (csv_records trace_bytes) c.args.drawing answer) c.in_ok-plan.plan (plan_of (csv_records plan_bytes)) c.drawn-made.result c.settled.result
    (c.in_ok-plan.ensures.answer plan_bytes plan) c.settled.ensures.same (c.drawn-made.ensures.found trace_bytes trace)
