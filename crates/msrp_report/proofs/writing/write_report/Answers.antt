use Rattle.std.proofs.Common.{◌≡◌, ◌+◌, ◌<◌, ◌++◌, ◌∙◌}
use Rattle.msrp_plan.proofs.Common.{ℕ, List, codes, length, refl, ap, sym, subst, append_assoc, arith, slice_index_or, get_or_from_slice_get, slice_get_read, Wrote, flat_more, wrote-more}
use Rattle.msrp_text.specs.PlanText.{record_text}
use Rattle.msrp_text.proofs.Written.{wrote-as}
use Rattle.msrp_report.proofs.Common.{line_record, lines_text, no_line, report_text}
use Rattle.msrp_report.proofs.writing.write_report.Goals as goal

pub loop-task-preserved : goal.loop-task-preserved
loop-task-preserved g c =
    let plan = c.args.plan.now in
    let lines = c.args.report.now.lines.items in
    let n = c.loop-task.task in
    let head = codes "msrp-report,2\n" in
    let told : ℕ → List ℕ = λ t. record_text (line_record plan t (slice_index_or lines t no_line)) in
    let within : n < length lines = (let t = c.tasks-task-end.ensures.value in let test = c.loop-task-test.true in let size = c.requires in omega (arith, t, test, size)) in
    let line : c.index.result.now ≡ slice_index_or lines n no_line = sym (get_or_from_slice_get lines n c.index.result.now no_line (slice_get_read lines (length lines) n c.index.result.now refl within c.index.ensures)) in
    let next = rw line at c.write_line.ensures in
    let text : (head ++ lines_text plan lines n) ++ told n ≡ head ++ lines_text plan lines (n + 1) = append_assoc head (lines_text plan lines n) (told n) ∙ ap (λ l. head ++ l) (sym (flat_more told n)) in
    wrote-as g.W.Write.contents c.args.out.now c.write_line.new.out _ _ text (wrote-more _ _ _ _ _ _ c.loop-task.invariant next)

pub returns-clause-wrote : goal.returns-clause-wrote
unfolding report_text
returns-clause-wrote g c =
    let plan = c.args.plan.now in
    let lines = c.args.report.now.lines.items in
    let all : c.loop-task.task ≡ length plan.tasks = (let t = c.tasks-task-end.ensures.value in let past = c.loop-task-test.false in let end = c.loop-task.auto.task-end in omega (arith, t, past, end)) in
    subst (λ k. Wrote g.W.Write.contents c.args.out.now c.loop-task.out (codes "msrp-report,2\n" ++ lines_text plan lines k)) all c.loop-task.invariant
