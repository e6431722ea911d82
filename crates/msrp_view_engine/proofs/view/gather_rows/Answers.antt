use Rattle.std.proofs.Common.{◌≡◌, ◌++◌, ◌∷◌, ◌∙◌}
use Rattle.msrp_plan.proofs.Common.{rules, [], List, Ok, Err, ap, subst, sym, inr}
use Rattle.msrp_view_engine.proofs.Common.{IsReadTo, Row, none-read, read-refused, read-row, told_left, trace_fault_of}
use Rattle.msrp_view_engine.proofs.ReadThrough.{all-read, error-read}
use Rattle.msrp_view_engine.proofs.view.gather_rows.Goals as goal

pub loop-number-init : goal.loop-number-init
loop-number-init g c = λ told known. subst (λ (rows : List Row). IsReadTo told rows (told_left g.T.Read.remaining c.args.rows.now)) (sym c.requires) (none-read told _ known)

pub loop-number-preserved : goal.loop-number-preserved
loop-number-preserved g c = λ told known.
    let pushed : c.push.new.self.items ≡ c.loop-number.gathered.items ++ c.in-Some.row ∷ [] = search rules in
    subst (λ (rows : List Row). IsReadTo told rows (told_left g.T.Read.remaining c.next_row.new.self)) (sym pushed)
    (read-row told c.loop-number.gathered.items _ _ c.next_row.result c.in-Some.row (c.loop-number.invariant told known) c.next_row.ensures.next (c.in_ok-row.was ∙ ap (λ x. Ok x) c.in-Some.is))

pub returns-in_err-row-clause-rows : goal.returns-in_err-row-clause-rows
returns-in_err-row-clause-rows g c = λ told known.
    let error = c.in_err-row.field-0.0 in
    let gives : c.from_residual.result ≡ Err (trace_fault_of error) = search rules in
    error-read told error c.from_residual.result _ (read-refused told c.loop-number.gathered.items _ _ c.next_row.result error (c.loop-number.invariant told known) c.next_row.ensures.next (cc)) (λ last. last.1) gives

pub returns-in_default-clause-rows : goal.returns-in_default-clause-rows
returns-in_default-clause-rows g c = λ told known.
    inr (inr (all-read told c.loop-number.gathered.items _ _ c.next_row.result (c.loop-number.invariant told known) c.next_row.ensures.next (cc)))
