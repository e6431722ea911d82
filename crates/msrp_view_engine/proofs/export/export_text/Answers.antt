use Rattle.std.proofs.Common.{◌≡◌, ◌∙◌}
use Rattle.msrp_plan.proofs.Common.{rules, Err, ap, some-more, wrote-some}
use Rattle.msrp_view_engine.proofs.Common.{ExportAnswers, OrUnread, answered, csv_records, export_answer, finding, from_plan, plan_of, rows_of, settled_from_plan}
use Rattle.msrp_view_engine.proofs.Answering.{err-unread, ok-unread}
use Rattle.msrp_view_engine.proofs.export.export_text.Goals as goal

pub returns-in_err-found-clause-answer : goal.returns-in_err-found-clause-answer
returns-in_err-found-clause-answer g c = λ plan_bytes trace_bytes plan trace.
    let read = c.in_ok-plan.ensures.answer plan_bytes plan in
    let new = c.export_all-found.new.out in
    let gives : c.from_residual-in_err-found.result ≡ Err c.in_err-found.field-0.0 = search rules in
    let settled = settled_from_plan (λ _ answer. answer ≡ finding c.in_ok-plan.plan (rows_of c.in_ok-plan.plan (csv_records trace_bytes))) _ _ _ _ read c.in_err-found.ensures.same (c.export_all-found.ensures.found trace_bytes trace) in
    from_plan (λ read. OrUnread c.from_residual-in_err-found.result (ExportAnswers read (csv_records trace_bytes) c.args.out.now new c.from_residual-in_err-found.result)) _ (plan_of (csv_records plan_bytes)) read
    (err-unread _ _ _ _ settled gives (λ is. gives ∙ ap (λ found. export_answer found new) is))

pub returns-clause-answer : goal.returns-clause-answer
returns-clause-answer g c = λ plan_bytes trace_bytes plan trace.
    let read = c.in_ok-plan.ensures.answer plan_bytes plan in
    let new = c.write_answer.new.out in
    let status = c.write_answer.ensures.answer ∙ ap (λ a. answered a new) c.answer_to.ensures in
    let settled = settled_from_plan (λ _ answer. answer ≡ finding c.in_ok-plan.plan (rows_of c.in_ok-plan.plan (csv_records trace_bytes))) _ _ _ _ read c.in_ok-found.ensures.same (c.export_all-found.ensures.found trace_bytes trace) in
    from_plan (λ read. OrUnread c.write_answer.result (ExportAnswers read (csv_records trace_bytes) c.args.out.now new c.write_answer.result)) _ (plan_of (csv_records plan_bytes)) read
    (ok-unread _ _ _ _ settled (λ is. status ∙ ap (λ found. export_answer found new) is))

pub returns-clause-wrote : goal.returns-clause-wrote
returns-clause-wrote g c = some-more g.W.Write.contents _ _ _ c.export_all-found.ensures.wrote (wrote-some _ _ _ _ c.write_answer.ensures.wrote)
