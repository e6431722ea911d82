use Rattle.std.proofs.Common.{◌≡◌, ◌++◌, ◌∷◌, ◌∙◌}
use Rattle.msrp_plan.proofs.Common.{rules, [], Ok, Err, ap, sym, subst, inr, PlanModel, verdict, some-more}
use Rattle.msrp_view_engine.proofs.Common.{IsFound, answer_of, broken-found, end-found, error-found, fewer-turns, finding, none-came, row-came, trace_fault_of}
use Rattle.msrp_view_engine.proofs.export.export_rows.Goals as goal

pub loop-exporter-init : goal.loop-exporter-init
loop-exporter-init g c = ([], none-came g.T.Read.remaining c.args.rows.now c.requires.fed, c.head.ensures.wrote)

pub returns-in_err-row-clause-found : goal.returns-in_err-row-clause-found
returns-in_err-row-clause-found g c = λ told known.
    let i = c.loop-exporter.invariant in
    let e = c.next_row.ensures in
    let gives : c.from_residual-in_err-row.result ≡ Err (trace_fault_of c.in_err-row.field-0.0) = search rules in
    let found = error-found g.T.Read.remaining _ _ _ i.0 c.next_row.result c.in_err-row.field-0.0 c.from_residual-in_err-row.result told i.1 (record { plan = e.plan; answers = e.gives; judged = e.judged i.0 i.1.fed i.1.fault }) (cc) known gives in
    subst (λ (p : PlanModel). IsFound p told c.from_residual-in_err-row.result) c.requires.plan found

pub returns-in-Broken-clause-found : goal.returns-in-Broken-clause-found
returns-in-Broken-clause-found g c = λ told known.
    let i = c.loop-exporter.invariant in
    let e = c.next_row.ensures in
    let found = broken-found g.T.Read.remaining _ _ _ i.0 c.next_row.result c.in-Broken.row c.in-Broken.broken told i.1 (record { plan = e.plan; answers = e.gives; judged = e.judged i.0 i.1.fed i.1.fault }) (c.in_ok-row.was ∙ ap (λ x. Ok x) c.in-Broken.is) known in
    inr (inr (sym (subst (λ (p : PlanModel). finding p told ≡ Ok (Err c.in-Broken.broken.fault)) c.requires.plan found)))

pub loop-exporter-smaller : goal.loop-exporter-smaller
loop-exporter-smaller g c =
    let i = c.loop-exporter.invariant in
    let e = c.next_row.ensures in
    fewer-turns g.T.Read.remaining _ _ _ i.0 c.next_row.result c.in-Legal.row i.1 (record { plan = e.plan; answers = e.gives; judged = e.judged i.0 i.1.fed i.1.fault }) (c.in_ok-row.was ∙ ap (λ x. Ok x) c.in-Legal.is)

pub loop-exporter-preserved : goal.loop-exporter-preserved
loop-exporter-preserved g c =
    let i = c.loop-exporter.invariant in
    let e = c.next_row.ensures in
    let r = c.in-Legal.row in
    let more = row-came g.T.Read.remaining _ _ _ i.0 c.next_row.result r i.1 (record { plan = e.plan; answers = e.gives; judged = e.judged i.0 i.1.fed i.1.fault }) (c.in_ok-row.was ∙ ap (λ x. Ok x) c.in-Legal.is) in
    (i.0 ++ r ∷ [], more, some-more g.W.Write.contents _ _ _ i.2 c.row.ensures.wrote)

pub returns-in-End-clause-found : goal.returns-in-End-clause-found
returns-in-End-clause-found g c = λ told known.
    let i = c.loop-exporter.invariant in
    let e = c.next_row.ensures in
    let whole = end-found g.T.Read.remaining _ _ _ i.0 c.next_row.result told i.1 (record { plan = e.plan; answers = e.gives; judged = e.judged i.0 i.1.fed i.1.fault }) (c.in_ok-row.was ∙ ap (λ x. Ok x) c.in-End.is) known in
    inr (inr (ap (λ x. Ok x) (rw c.auditor.ensures at c.end-found.ensures i.0 whole.0) ∙ sym (subst (λ (p : PlanModel). finding p told ≡ Ok (answer_of (verdict c.next_row.new.self.auditor.plan i.0))) c.requires.plan whole.2)))

pub returns-in-Broken-clause-wrote : goal.returns-in-Broken-clause-wrote
returns-in-Broken-clause-wrote g c = some-more g.W.Write.contents _ _ _ c.loop-exporter.invariant.2 c.end.ensures

pub returns-in-End-clause-wrote : goal.returns-in-End-clause-wrote
returns-in-End-clause-wrote g c = some-more g.W.Write.contents _ _ _ c.loop-exporter.invariant.2 c.end-in-End.ensures

pub returns-in_err-row-in-Legal-clause-wrote : goal.returns-in_err-row-in-Legal-clause-wrote
returns-in_err-row-in-Legal-clause-wrote g c = some-more g.W.Write.contents _ _ _ c.loop-exporter.invariant.2 c.row.ensures.wrote

pub returns-in_err-end-in-Broken-clause-wrote : goal.returns-in_err-end-in-Broken-clause-wrote
returns-in_err-end-in-Broken-clause-wrote g c = some-more g.W.Write.contents _ _ _ c.loop-exporter.invariant.2 c.end.ensures

pub returns-in_err-end-in-End-clause-wrote : goal.returns-in_err-end-in-End-clause-wrote
returns-in_err-end-in-End-clause-wrote g c = some-more g.W.Write.contents _ _ _ c.loop-exporter.invariant.2 c.end-in-End.ensures
