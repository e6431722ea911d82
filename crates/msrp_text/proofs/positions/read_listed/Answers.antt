use Rattle.std.proofs.Common.{◌≡◌, ◌∙◌}
use Rattle.msrp_plan.proofs.Common.{rules, arith, length, sym, Err}
use Rattle.csv.specs.Records.{fields_of}
use Rattle.msrp_text.proofs.Judging.{judged-err, judged-ok, listed-judged}
use Rattle.msrp_text.proofs.positions.read_listed.Goals as goal

pub returns-in_err-listed-in-Some-Some-clause-judged : goal.returns-in_err-listed-in-Some-Some-clause-judged
returns-in_err-listed-in-Some-Some-clause-judged c =
    let four : length (fields_of c.args.row.now) ≡ 4 = omega arith in
    let e : c.from_residual.result ≡ Err c.in_err-listed-in-Some-Some.field-0.0 = search rules in
    rw e (judged-err _ _ _ _ (listed-judged c.args.builder.now _ _ c.in-Some-Some.core c.in-Some-Some.deadline _ four (sym c.number_at.ensures ∙ c.in-Some-Some.is-0) (sym c.number_at-2.ensures ∙ c.in-Some-Some.is-1) c.name_at.ensures c.listed.ensures.judged) c.in_err-listed-in-Some-Some.was)

pub returns-in_ok-listed-in-Some-Some-clause-judged : goal.returns-in_ok-listed-in-Some-Some-clause-judged
returns-in_ok-listed-in-Some-Some-clause-judged c =
    let four : length (fields_of c.args.row.now) ≡ 4 = omega arith in
    judged-ok _ _ _ _ (listed-judged c.args.builder.now _ _ c.in-Some-Some.core c.in-Some-Some.deadline _ four (sym c.number_at.ensures ∙ c.in-Some-Some.is-0) (sym c.number_at-2.ensures ∙ c.in-Some-Some.is-1) c.name_at.ensures c.listed.ensures.judged) c.in_ok-listed-in-Some-Some.was
