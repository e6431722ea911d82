use Rattle.std.proofs.Common.{◌∙◌, ◌&&◌, ◌+◌, ◌==◌}
use Rattle.msrp_plan.proofs.Common.{ap, sym, not, refl, nat_le, is_waiting, option_map, start_last}
use Rattle.msrp_plan.specs.Ceiling.{ceiling}
use Rattle.msrp_plan.specs.Levels.{level as level_by}
use Rattle.msrp_why.proofs.Common.{deadline_of, is_at, is_at_most, is_other}
use Rattle.msrp_why.proofs.Exercising.{and_where, few_before, finishes_by, head_known, job_below, job_known, one_more_counted}
use Rattle.msrp_why.proofs.exercise.TurnCounts.note.Goals as goal

pub returns : goal.returns
returns c = λ rows start is nested was.
    let plan = c.args.plan.now in
    let r = c.args.row in
    let s = c.args.state in
    let ok = c.requires.accepted in
    let legal = start_last plan rows r start in
    let few = few_before plan rows r ok start in
    let ended = c.finishes-finished.result in
    let ends = ap (λ b. not (is_waiting r.kind) && b) (finishes_by plan rows r s ok legal is r.job refl) ∙ sym (c.finishes-finished.ensures (job_below plan rows r s ok legal is)) in
    let deadline = c.deadline_of-deadline.ensures (job_known plan rows r s ok legal is) in
    let level = c.level_of-level.ensures (head_known plan r.core.0 r.tick rows s is) ∙ ap (option_map (λ h. level_by plan h.task.0)) is.head in
    let late = c.is_at_most.ensures ∙ (ap (is_at_most c.deadline_of-deadline.result) c.from.ensures ∙ (ap (λ o. is_at_most o r.tick) deadline ∙ and_where ended (deadline_of plan r) (λ n. nat_le n r.tick))) in
    let at_deadline = c.is_at.ensures ∙ (ap (λ n. is_at c.deadline_of-deadline.result (n + 1)) c.from-2.ensures ∙ (ap (λ o. is_at o (r.tick + 1)) deadline ∙ and_where ended (deadline_of plan r) (λ n. n == r.tick + 1))) in
    let kept = c.is_at_most-2.ensures ∙ (ap (is_at_most c.level_of-level.result) (c.from-3.ensures ∙ is.ceiling) ∙ ap (λ o. is_at_most o (ceiling plan r.core.0 rows)) level) in
    let at_ceiling = c.is_at-2.ensures ∙ (ap (is_at c.level_of-level.result) (c.from-4.ensures ∙ is.ceiling) ∙ ap (λ o. is_at o (ceiling plan r.core.0 rows)) level) in
    record {
      finished = one_more_counted _ rows r _ _ _ few ends c.one_if-self.ensures was.finished;
      late = one_more_counted _ rows r _ _ _ few (ap (λ b. b && is_at_most (deadline_of plan r) r.tick) ends ∙ sym late) c.one_if-self-2.ensures was.late;
      at_deadline = one_more_counted _ rows r _ _ _ few (ap (λ b. b && is_at (deadline_of plan r) (r.tick + 1)) ends ∙ sym at_deadline) c.one_if-self-3.ensures was.at_deadline;
      kept = one_more_counted _ rows r _ _ _ few (sym kept) c.one_if-self-4.ensures was.kept;
      at_ceiling = one_more_counted _ rows r _ _ _ few (sym at_ceiling) c.one_if-self-5.ensures was.at_ceiling;
      preempted = one_more_counted _ rows r _ _ _ few (ap (λ x. is_other x r.job) (sym is.running) ∙ sym c.is_other.ensures) c.one_if-self-6.ensures was.preempted;
      nested = one_more_counted _ rows r _ _ _ few (sym nested) c.one_if-self-7.ensures was.nested;
    }
