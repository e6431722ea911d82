use Rattle.std.proofs.Common.{◌≡◌, ◌++◌, ◌∷◌, ◌∙◌}
use Rattle.msrp_plan.proofs.Common.{rules, [], List, Ok, Err, IfOk, None, refl, ap, sym, subst, PlanModel, fault_in}
use Rattle.msrp_plan.specs.declared.rows.Row.{Row}
use Rattle.msrp_faults.specs.Outcomes.{trace_fault_of}
use Rattle.msrp_report.specs.Lines.{lines_of}
use Rattle.msrp_report.specs.declared.lines.Report.{Report}
use Rattle.msrp_engine.proofs.Reporting.{IsReported, reported-end, reported-error, reported-fault}
use Rattle.msrp_engine.proofs.RowsJudged.{broken-found, came-good, end-found, error-found, fewer-turns, next-gives, none-came, row-came}
use Rattle.msrp_engine.proofs.report.report_rows.Goals as goal

pub loop-counter-init : goal.loop-counter-init
loop-counter-init g c = ([], none-came g.T.Read.remaining c.args.rows.now c.requires.fed, refl, c.requires.counted)

pub count-requires : goal.count-requires
count-requires g c =
    let i = c.loop-counter.invariant in
    let e = c.next_row.ensures in
    let more = row-came g.T.Read.remaining _ _ _ i.0 c.next_row.result c.in-Legal.row i.1 (next-gives g.T.Read.remaining _ _ _ i.0 c.next_row.result i.1 e.plan e.gives e.judged) (c.in_ok-row.was ∙ ap (λ x. Ok x) c.in-Legal.is) in
    (i.0, i.3, subst (λ (p : PlanModel). fault_in p (i.0 ++ c.in-Legal.row ∷ []) ≡ None) (c.requires.plan ∙ sym i.2) (came-good g.T.Read.remaining _ _ _ more))

pub loop-counter-smaller : goal.loop-counter-smaller
loop-counter-smaller g c =
    let i = c.loop-counter.invariant in
    let e = c.next_row.ensures in
    fewer-turns g.T.Read.remaining _ _ _ i.0 c.next_row.result c.in-Legal.row i.1 (next-gives g.T.Read.remaining _ _ _ i.0 c.next_row.result i.1 e.plan e.gives e.judged) (c.in_ok-row.was ∙ ap (λ x. Ok x) c.in-Legal.is)

pub loop-counter-preserved : goal.loop-counter-preserved
loop-counter-preserved g c =
    let i = c.loop-counter.invariant in
    let e = c.next_row.ensures in
    let more = row-came g.T.Read.remaining _ _ _ i.0 c.next_row.result c.in-Legal.row i.1 (next-gives g.T.Read.remaining _ _ _ i.0 c.next_row.result i.1 e.plan e.gives e.judged) (c.in_ok-row.was ∙ ap (λ x. Ok x) c.in-Legal.is) in
    let good = subst (λ (p : PlanModel). fault_in p (i.0 ++ c.in-Legal.row ∷ []) ≡ None) (c.requires.plan ∙ sym i.2) (came-good g.T.Read.remaining _ _ _ more) in
    (i.0 ++ c.in-Legal.row ∷ [], more, ap (λ p. p.now) c.count.ensures.plan ∙ i.2, c.count.ensures.counted i.0 i.3 good)

pub returns-in_err-row-clause-found : goal.returns-in_err-row-clause-found
returns-in_err-row-clause-found g c = λ told known.
    let i = c.loop-counter.invariant in
    let e = c.next_row.ensures in
    let error = c.in_err-row.field-0.0 in
    let gives : c.from_residual.result ≡ Err (trace_fault_of error) = search rules in
    let found = error-found g.T.Read.remaining _ _ _ i.0 c.next_row.result error (Err (trace_fault_of error)) told i.1 (next-gives g.T.Read.remaining _ _ _ i.0 c.next_row.result i.1 e.plan e.gives e.judged) (cc) known refl in
    subst (IsReported c.args.rows.now.auditor.plan told) (sym gives) (reported-error c.args.rows.now.auditor.plan told (trace_fault_of error) found)

pub returns-in-Broken-clause-found : goal.returns-in-Broken-clause-found
returns-in-Broken-clause-found g c = λ told known.
    let i = c.loop-counter.invariant in
    let e = c.next_row.ensures in
    let found = broken-found g.T.Read.remaining _ _ _ i.0 c.next_row.result _ c.in-Broken.broken told i.1 (next-gives g.T.Read.remaining _ _ _ i.0 c.next_row.result i.1 e.plan e.gives e.judged) (c.in_ok-row.was ∙ ap (λ x. Ok x) c.in-Broken.is) known in
    reported-fault c.args.rows.now.auditor.plan told c.in-Broken.broken.fault found

pub ended-requires : goal.ended-requires
ended-requires g c = (c.loop-counter.invariant.0, c.loop-counter.invariant.3)

pub returns-in-End-clause-found : goal.returns-in-End-clause-found
returns-in-End-clause-found g c = λ told known.
    let i = c.loop-counter.invariant in
    let e = c.next_row.ensures in
    let whole = end-found g.T.Read.remaining _ _ _ i.0 c.next_row.result told i.1 (next-gives g.T.Read.remaining _ _ _ i.0 c.next_row.result i.1 e.plan e.gives e.judged) (c.in_ok-row.was ∙ ap (λ x. Ok x) c.in-End.is) known in
    let found = whole.2 ∙ ap (λ x. Ok x) (sym (rw c.auditor.ensures at c.end.ensures i.0 whole.0)) in
    let lines : IfOk c.ended.result (λ (report : Report). report.lines.items ≡ lines_of c.args.rows.now.auditor.plan told.rows) =
    subst (λ (p : PlanModel). IfOk c.ended.result (λ (report : Report). report.lines.items ≡ lines_of p told.rows)) (i.2 ∙ sym c.requires.plan)
    (subst (λ (xs : List Row). IfOk c.ended.result (λ (report : Report). report.lines.items ≡ lines_of c.loop-counter.counter.plan.now xs)) (sym whole.1) (c.ended.ensures.lines i.0 i.3)) in
    reported-end c.args.rows.now.auditor.plan told c.end.result c.ended.result found c.ended.ensures.found lines
