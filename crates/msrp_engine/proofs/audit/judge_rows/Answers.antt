use Rattle.std.proofs.Common.{◌≡◌, ◌++◌, ◌∷◌, ◌∙◌}
use Rattle.msrp_plan.proofs.Common.{rules, [], Ok, Err, ap, sym, inr}
use Rattle.msrp_faults.specs.Outcomes.{trace_fault_of}
use Rattle.msrp_engine.proofs.RowsJudged.{broken-found, end-found, error-found, fewer-turns, next-gives, none-came, row-came}
use Rattle.msrp_engine.proofs.audit.judge_rows.Goals as goal

pub loop-row-init : goal.loop-row-init
loop-row-init g c = ([], none-came g.T.Read.remaining c.args.rows.now c.requires)

pub loop-row-smaller : goal.loop-row-smaller
loop-row-smaller g c =
    let i = c.loop-row.invariant in
    let e = c.next_row.ensures in
    fewer-turns g.T.Read.remaining _ _ _ i.0 c.next_row.result c.in-Legal._row i.1 (next-gives g.T.Read.remaining _ _ _ i.0 c.next_row.result i.1 e.plan e.gives e.judged) (c.in_ok-_row.was ∙ ap (λ x. Ok x) c.in-Legal.is)

pub loop-row-preserved : goal.loop-row-preserved
loop-row-preserved g c =
    let i = c.loop-row.invariant in
    let e = c.next_row.ensures in
    (i.0 ++ c.in-Legal._row ∷ [], row-came g.T.Read.remaining _ _ _ i.0 c.next_row.result c.in-Legal._row i.1 (next-gives g.T.Read.remaining _ _ _ i.0 c.next_row.result i.1 e.plan e.gives e.judged) (c.in_ok-_row.was ∙ ap (λ x. Ok x) c.in-Legal.is))

pub returns-in_err-_row-clause-found : goal.returns-in_err-_row-clause-found
returns-in_err-_row-clause-found g c = λ told known.
    let i = c.loop-row.invariant in
    let e = c.next_row.ensures in
    let gives : c.from_residual.result ≡ Err (trace_fault_of c.in_err-_row.field-0.0) = search rules in
    error-found g.T.Read.remaining _ _ _ i.0 c.next_row.result c.in_err-_row.field-0.0 c.from_residual.result told i.1 (next-gives g.T.Read.remaining _ _ _ i.0 c.next_row.result i.1 e.plan e.gives e.judged) (cc) known gives

pub returns-in-Broken-clause-found : goal.returns-in-Broken-clause-found
returns-in-Broken-clause-found g c = λ told known.
    let i = c.loop-row.invariant in
    let e = c.next_row.ensures in
    inr (inr (sym (broken-found g.T.Read.remaining _ _ _ i.0 c.next_row.result _ c.in-Broken.broken told i.1 (next-gives g.T.Read.remaining _ _ _ i.0 c.next_row.result i.1 e.plan e.gives e.judged) (c.in_ok-_row.was ∙ ap (λ x. Ok x) c.in-Broken.is) known)))

pub returns-in-End-clause-found : goal.returns-in-End-clause-found
returns-in-End-clause-found g c = λ told known.
    let i = c.loop-row.invariant in
    let e = c.next_row.ensures in
    let whole = end-found g.T.Read.remaining _ _ _ i.0 c.next_row.result told i.1 (next-gives g.T.Read.remaining _ _ _ i.0 c.next_row.result i.1 e.plan e.gives e.judged) (c.in_ok-_row.was ∙ ap (λ x. Ok x) c.in-End.is) known in
    inr (inr (ap (λ x. Ok x) (rw c.auditor.ensures at c.end.ensures i.0 whole.0) ∙ sym whole.2))
