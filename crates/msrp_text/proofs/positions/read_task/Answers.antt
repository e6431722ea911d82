use Rattle.std.proofs.Common.{◌≡◌, ◌∙◌}
use Rattle.msrp_plan.proofs.Common.{rules, arith, length, sym, Err}
use Rattle.csv.specs.Records.{fields_of}
use Rattle.msrp_text.proofs.Judging.{judged-err, judged-ok, task-added, task-judged}
use Rattle.msrp_text.proofs.positions.read_task.Goals as goal

pub returns-in_err-task-in-Some-clause-judged : goal.returns-in_err-task-in-Some-clause-judged
returns-in_err-task-in-Some-clause-judged c =
    let six : length (fields_of c.args.row.now) ≡ 6 = omega arith in
    let e : c.from_residual.result ≡ Err c.in_err-task-in-Some.field-0.0 = search rules in
    rw e (judged-err _ _ _ _ (task-judged c.args.builder.now _ _ c.in-Some.numbers _ six (sym c.task_numbers.ensures ∙ c.in-Some.is) c.name_at.ensures c.task.ensures.judged) c.in_err-task-in-Some.was)

pub returns-in_ok-task-in-Some-clause-judged : goal.returns-in_ok-task-in-Some-clause-judged
returns-in_ok-task-in-Some-clause-judged c =
    let six : length (fields_of c.args.row.now) ≡ 6 = omega arith in
    judged-ok _ _ _ _ (task-judged c.args.builder.now _ _ c.in-Some.numbers _ six (sym c.task_numbers.ensures ∙ c.in-Some.is) c.name_at.ensures c.task.ensures.judged) c.in_ok-task-in-Some.was

pub returns-in_ok-task-in-Some-clause-added : goal.returns-in_ok-task-in-Some-clause-added
returns-in_ok-task-in-Some-clause-added c = task-added c.args.builder.now _ _ _ c.in-Some.numbers (sym c.task_numbers.ensures ∙ c.in-Some.is) c.name_at.ensures c.in_ok-task-in-Some.ensures.added
