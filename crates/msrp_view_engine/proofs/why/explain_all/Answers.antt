use Rattle.std.proofs.Common.{◌≡◌}
use Rattle.msrp_plan.proofs.Common.{Some, subst, sym}
use Rattle.msrp_view_engine.proofs.Common.{csv_records, opened, rows_of, told_left}
use Rattle.msrp_view_engine.proofs.Explaining.{refused-explained, unopened-judged}
use Rattle.msrp_view_engine.proofs.why.explain_all.Goals as goal

pub returns-in-Err-clause-explained : goal.returns-in-Err-clause-explained
returns-in-Err-clause-explained g c = λ bytes known.
    let error = c.in-Err.unopened.error in
    let judged = unopened-judged g.T.Read.remaining c.args.plan.now (csv_records bytes) error (c.in-Err.ensures.opens bytes known) in
    refused-explained c.args.plan.now (rows_of c.args.plan.now (csv_records bytes)) error c.words_on_refusal.result judged c.words_on_refusal.ensures.found c.words_on_refusal.ensures.words c.words_on_refusal.ensures.fault

pub returns-clause-explained : goal.returns-clause-explained
returns-clause-explained g c = λ bytes known.
    let told = rows_of c.args.plan.now (csv_records bytes) in
    let begun = opened g.T.Read.remaining c.args.plan.now (csv_records bytes) c.in-Ok.reader (c.in-Ok.ensures.opens bytes known) in
    c.explain_rows-words.ensures.explained told (subst (λ r. told_left g.T.Read.remaining r ≡ Some told) (sym c.new-rows.ensures.rows) begun)
