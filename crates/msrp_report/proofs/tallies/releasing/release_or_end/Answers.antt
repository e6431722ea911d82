use Rattle.std.proofs.Common.{◌≡◌, ◌<◌, ◌∙◌}
use Rattle.msrp_plan.proofs.Common.{ℕ, true, ap, subst, arith, get_or, length, map, nat_lt, range_with_len, ltb-true, get_or-map-range_with_len, PlanModel, release, job_at, jobs_of, IsPlan, jobs_of_are}
use Rattle.msrp_report.proofs.Common.{filter_passes, job_in}
use Rattle.msrp_report.proofs.JobTallies.{job_known}
use Rattle.msrp_report.proofs.tallies.releasing.release_or_end.Goals as goal

-- a job is released before the plan's ticks are over
before_end : (plan : PlanModel) (t k : ℕ) → IsPlan plan → k < length (jobs_of plan t) → release plan (job_at t k) < plan.ticks
before_end plan t k ok l =
    let is = ap (λ js. get_or js k (job_at t k)) (jobs_of_are plan ok t) ∙ get_or-map-range_with_len (job_at t) 0 (length (jobs_of plan t)) k k (job_at t k) l (omega arith) in
    ltb-true (release plan (job_at t k)) plan.ticks (subst (λ j. nat_lt (release plan j) plan.ticks ≡ true) is (filter_passes (λ j. nat_lt (release plan j) plan.ticks) (map (job_at t) (range_with_len 0 plan.ticks)) k (job_at t k) l))

pub release-requires-clause-released : goal.release-requires-clause-released
release-requires-clause-released c =
    let plan = c.args.plan.now in
    let j = c.args.job in
    let test = c.if-job-jobs.true in
    let count = c.requires.jobs in
    (job_known plan j (job_in plan j.task.0 j.k c.requires.plan c.requires.task (omega (arith, test, count)))).released

pub overflow_cast-result : goal.overflow_cast-result
overflow_cast-result c =
    let plan = c.args.plan.now in
    let j = c.args.job in
    let test = c.if-job-jobs.true in
    let count = c.requires.jobs in
    let early = before_end plan j.task.0 j.k c.requires.plan (omega (arith, test, count)) in
    let value = c.release.ensures.value in
    let ticks = c.requires.plan.draft.ticks in
    omega (arith, early, value, ticks)
