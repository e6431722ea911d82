use Rattle.std.proofs.Common.{◌≡◌, ◌+◌, ◌<◌, ◌∙◌}
use Rattle.msrp_plan.proofs.Common.{ℕ, List, Option, PlanModel, ap, cond, nat_le, nat_lt, refl, sym, subst, length, release, task_at}
use Rattle.msrp_plan.specs.declared.ids.JobId.{JobId}
use Rattle.msrp_plan.specs.declared.ids.TaskId.{TaskId}
use Rattle.msrp_plan.specs.declared.rows.Row.{Row}
use Rattle.msrp_export.specs.Signals.{counts_of, job_after, last_row, released_state, row_in, task_status, work}
use Rattle.msrp_export.specs.declared.summary.TaskCounts.{TaskCounts}
use Rattle.msrp_export.specs.declared.tasks.TaskState.TheVariants.{Unreleased}
use Rattle.msrp_export.proofs.tasks.task_status.Goals as goal

-- by the work before, the job, its release, the counts, and the task's row
does : (plan : PlanModel) (before rows : List Row) (tick t : ℕ) (w : ℕ) (j : JobId) (r : ℕ) (counts : TaskCounts) (row : Option Row) → w ≡ work t before → j ≡ job_after plan before t → r ≡ release plan (job_after plan before t)
    → counts ≡ counts_of t rows → row ≡ row_in tick t (last_row (task_at plan t).core rows)
    → record { state = cond (nat_le r tick) (released_state (nat_lt counts.given_up counts.acquired) row) Unreleased; job = j; late = nat_le (r + (task_at plan t).deadline) tick; row = row; work = w } ≡ task_status plan before rows tick t
does plan before rows tick t w j r counts row work_is job_is release_is counts_are row_is = rw (work_is, job_is, release_is, counts_are, row_is) refl

pub release_of-release-requires : goal.release_of-release-requires
release_of-release-requires c = subst (λ (t : TaskId). t.0 < length c.args.plan.now.tasks) (sym c.job_after-job.ensures.task) c.requires.task

pub returns : goal.returns
returns c = λ earlier rows was told.
    let plan = c.args.plan.now in
    let worked = ap (λ (x : TaskCounts). x.work) (c.counts_of-work.ensures earlier was) in
    let job = c.job_after-job.ensures.job earlier worked in
    let released = c.release_of-release.ensures.value ∙ ap (release plan) job in
    let counts = c.counts_of-counts.ensures rows told in
    let last = c.last_row.ensures rows told ∙ ap (λ k. last_row k rows) c.core_of.ensures in
    let row = c.row_in-row.ensures ∙ ap (row_in c.args.tick c.args.task.0) last in
    rw (c.state_of.ensures, c.from.ensures, c.from-2.ensures, c.from-3.ensures, c.deadline.ensures) (does plan earlier rows c.args.tick c.args.task.0 _ _ _ _ _ worked job released counts row)
