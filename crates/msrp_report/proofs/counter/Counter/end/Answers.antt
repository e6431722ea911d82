use Rattle.std.proofs.Common.{◌≡◌, ◌+◌, ◌≤◌, ◌++◌, ◌∷◌, ◌∙◌}
use Rattle.msrp_plan.proofs.Common.{[], List, map, length, length-append, sym, ap, subst, arith, range_with_len}
use Rattle.msrp_report.proofs.Common.{Line, line_of}
use Rattle.msrp_report.proofs.LineJobs.{map_next}
use Rattle.msrp_report.proofs.Reporting.{blocked_bounded, spins_bounded}
use Rattle.msrp_report.proofs.counter.Counter.end.Goals as goal

pub loop-task-preserved : goal.loop-task-preserved
loop-task-preserved c =
    let plan = c.args.self.plan.now in
    let n = c.loop-task.task in
    let i = c.loop-task.invariant in
    let items = c.push_reserved.ensures.items in
    record {
      lines = λ rows told. items ∙ (ap (λ (l : List Line). l ++ c.task_line.result ∷ []) (i.lines rows told) ∙ (ap (λ (x : Line). map (line_of plan rows) (range_with_len 0 n) ++ x ∷ []) (c.task_line.ensures rows told) ∙ sym (map_next (line_of plan rows) n)));
      size = ap length items ∙ (length-append c.loop-task.lines.items (c.task_line.result ∷ []) ∙ ap (λ k. k + 1) i.size);
      room = subst (λ k. length plan.tasks ≤ k) (sym c.push_reserved.ensures.capacity) i.room;
    }

pub returns-clause-lines : goal.returns-clause-lines
returns-clause-lines c = λ rows is.
    let plan = c.args.self.plan.now in
    let all : c.loop-task.task ≡ length plan.tasks = (let t = c.tasks-task-end.ensures.value in let past = c.loop-task-test.false in let end = c.loop-task.auto.task-end in omega (arith, t, past, end)) in
    c.loop-task.invariant.lines rows is.told ∙ ap (λ k. map (line_of plan rows) (range_with_len 0 k)) all

pub returns-clause-spinning : goal.returns-clause-spinning
returns-clause-spinning c =
    let plan = c.args.self.plan.now in
    let rows = c.requires.0 in
    let told = c.requires.1.told in
    let all : c.loop-task.task ≡ length plan.tasks = (let t = c.tasks-task-end.ensures.value in let past = c.loop-task-test.false in let end = c.loop-task.auto.task-end in omega (arith, t, past, end)) in
    spins_bounded plan rows c.loop-task.lines.items c.loop-task.task c.tasks-task-end.ensures.plan told.tallies.start all (c.loop-task.invariant.lines rows told)

pub returns-clause-blocking : goal.returns-clause-blocking
returns-clause-blocking c =
    let plan = c.args.self.plan.now in
    let rows = c.requires.0 in
    let told = c.requires.1.told in
    let all : c.loop-task.task ≡ length plan.tasks = (let t = c.tasks-task-end.ensures.value in let past = c.loop-task-test.false in let end = c.loop-task.auto.task-end in omega (arith, t, past, end)) in
    blocked_bounded plan rows c.loop-task.lines.items c.loop-task.task c.tasks-task-end.ensures.plan told.tallies.start all (c.loop-task.invariant.lines rows told)
