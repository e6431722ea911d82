-- The jobs of a core, by the tests that name them.
use Rattle.msrp_plan.specs.Common.{ℕ, true, Option, Some, None, IsSome, length, map, nat_lt, AllByRecursion, Contains, range_with_len, PlanModel, core_of, release, release_tick, jobs, jobs_of, jobs_on, job_at}
use Rattle.msrp_plan.specs.declared.ids.JobId.{JobId}
use Rattle.std.proofs.Common.{◌≡◌, ◌<◌, ◌==◌, ap, sym, subst, refl, arith, unwrap_or}
use Rattle.std.proofs.lemmas.Bool.{eqb-true, ltb-true}
use Rattle.std.proofs.lemmas.List.Elements.{All-contains, All-from_recursion, filter_passes, recursion_from_All}
use Rattle.std.proofs.lemmas.Map.Views.{Contains-from_any}
use Rattle.msrp_plan.specs.Runs.{is_on_core}
use Rattle.msrp_plan.proofs.Lists.AnyAll.{all_flat}
use Rattle.msrp_plan.proofs.Lists.Least.{all_filtered}
use Rattle.msrp_plan.proofs.Jobs.JobLists.{core_jobs_below}
use Rattle.msrp_plan.proofs.Jobs.JobTests.{same_is}

-- a job of a core is of a task of that core
pub on_its_core : (plan : PlanModel) (c : ℕ) (j : JobId) → Contains (jobs_on plan c) j → core_of plan j ≡ c
on_its_core plan c j there = eqb-true (core_of plan j) c (All-contains (λ z. (core_of plan z == c) ≡ true) (jobs_on plan c) j (filter_passes (λ z. core_of plan z == c) (jobs plan)) there)

-- whom the test finds on the core is one of its jobs
pub job_on_core : (plan : PlanModel) (c : ℕ) (o : Option JobId) (j : JobId) → is_on_core plan c o ≡ true → o ≡ Some j → Contains (jobs_on plan c) j
job_on_core plan c o j h e = Contains-from_any same_is j (jobs_on plan c) (subst (λ p. is_on_core plan c p ≡ true) e h)

-- each job of a core is released before the ticks are over
before_end : (plan : PlanModel) (c : ℕ) → AllByRecursion (λ j. nat_lt (release plan j) plan.ticks ≡ true) (jobs_on plan c)
before_end plan c = all_filtered (λ j. nat_lt (release plan j) plan.ticks ≡ true) (λ j. core_of plan j == c) (jobs plan)
    (all_flat (λ j. nat_lt (release plan j) plan.ticks ≡ true) (jobs_of plan) (λ t. recursion_from_All (λ j. nat_lt (release plan j) plan.ticks ≡ true) (jobs_of plan t) (filter_passes (λ j. nat_lt (release plan j) plan.ticks) (map (job_at t) (range_with_len 0 plan.ticks)))) (range_with_len 0 (length plan.tasks)))

-- so it is released
pub known_released : (plan : PlanModel) (c : ℕ) (j : JobId) → Contains (jobs_on plan c) j → IsSome (release_tick plan j)
known_released plan c j there = by_tick (release_tick plan j) refl
  where
    early : release plan j < plan.ticks
    early = ltb-true (release plan j) plan.ticks (All-contains (λ j. nat_lt (release plan j) plan.ticks ≡ true) (jobs_on plan c) j (All-from_recursion (λ j. nat_lt (release plan j) plan.ticks ≡ true) (jobs_on plan c) (before_end plan c)) there)

    by_tick : (o : Option ℕ) → release_tick plan j ≡ o → IsSome (release_tick plan j)
    by_tick None e = absurd (let k = ap (λ o. unwrap_or o plan.ticks) e in let l = early in omega (arith, k, l))
    by_tick (Some t) e = subst IsSome (sym e) refl

-- and one of a task of the plan
pub known_task : (plan : PlanModel) (c : ℕ) (j : JobId) → Contains (jobs_on plan c) j → j.task.0 < length plan.tasks
known_task plan c j there = All-contains (λ j. j.task.0 < length plan.tasks) (jobs_on plan c) j (All-from_recursion (λ j. j.task.0 < length plan.tasks) (jobs_on plan c) (core_jobs_below plan c)) there
