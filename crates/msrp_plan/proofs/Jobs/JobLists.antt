-- The jobs of a task, and of a core, as lists.
use Rattle.msrp_plan.specs.Common.{ℕ, zero, suc, Bool, true, false, cond, List, [], map, nat_lt, length, AllByRecursion, Contains, filter, flat_map, range_with_len, PlanModel, task_at, core_of, release, units, jobs_of, jobs_on, IsPlan}
use Rattle.msrp_plan.specs.declared.ids.JobId.{JobId}
use Rattle.std.proofs.Common.{◌≡◌, ◌+◌, ◌<◌, ◌≤◌, ◌==◌, ◌∷◌, ◌++◌, refl, ap, ◌∙◌, arith}
use Rattle.std.proofs.lemmas.List.Elements.{All-contains, All-from_recursion, filter-append}
pub use Rattle.msrp_plan.specs.Jobs.{job_at}
use Rattle.msrp_plan.proofs.Lists.Least.{all_filtered}
use Rattle.msrp_plan.proofs.Lists.AnyAll.{all_weaker, all_joined}
use Rattle.msrp_plan.proofs.Lists.Ranges.{flat_more}
use Rattle.msrp_plan.proofs.Jobs.Releases.{first_jobs, task_times}

-- the jobs of some tasks that a core has
abbrev pub jobs_among : PlanModel → ℕ → List ℕ → List JobId
jobs_among plan c ts = filter (λ j. core_of plan j == c) (flat_map (jobs_of plan) ts)

-- each job of a task is of that task
of_task : (plan : PlanModel) (t : ℕ) → AllByRecursion (λ j. j.task.0 ≡ t) (jobs_of plan t)
of_task plan t = all_filtered (λ j. j.task.0 ≡ t) (λ j. nat_lt (release plan j) plan.ticks) (map (job_at t) (range_with_len 0 plan.ticks)) (each (range_with_len 0 plan.ticks))
  where
    each : (ks : List ℕ) → AllByRecursion (λ j. j.task.0 ≡ t) (map (job_at t) ks)
    each [] = tt
    each (k ∷ ks) = (refl, each ks)

-- releases of a task rise, so its jobs are as many as they are, from the first on
pub jobs_of_are : (plan : PlanModel) → IsPlan plan → (t : ℕ) → jobs_of plan t ≡ map (job_at t) (range_with_len 0 (length (jobs_of plan t)))
jobs_of_are plan ok t = first_jobs plan t (task_times plan ok.draft t)

-- ---- the jobs of a core, task by task
filter_all : {X : Type 0} (p : X → Bool) (b : Bool) (xs : List X) → AllByRecursion (λ x. p x ≡ b) xs → filter p xs ≡ cond b xs []
filter_all p true [] all = refl
filter_all p false [] all = refl
filter_all p true (x ∷ xs) all = ap (λ b. cond b (x ∷ filter p xs) (filter p xs)) all.0 ∙ ap (λ ys. x ∷ ys) (filter_all p true xs all.1)
filter_all p false (x ∷ xs) all = ap (λ b. cond b (x ∷ filter p xs) (filter p xs)) all.0 ∙ filter_all p false xs all.1

-- all jobs of a task are on its core
task_jobs_on : (plan : PlanModel) (c t : ℕ) → filter (λ j. core_of plan j == c) (jobs_of plan t) ≡ cond ((task_at plan t).core == c) (jobs_of plan t) []
task_jobs_on plan c t =
    filter_all (λ j. core_of plan j == c) ((task_at plan t).core == c) (jobs_of plan t)
    (all_weaker (λ j. j.task.0 ≡ t) (λ j. (core_of plan j == c) ≡ ((task_at plan t).core == c)) (λ j e. ap (λ n. (task_at plan n).core == c) e) (jobs_of plan t) (of_task plan t))

-- one task more
pub jobs_among_more : (plan : PlanModel) (c t : ℕ) → jobs_among plan c (range_with_len 0 (t + 1)) ≡ jobs_among plan c (range_with_len 0 t) ++ cond ((task_at plan t).core == c) (jobs_of plan t) []
jobs_among_more plan c t =
    ap (filter (λ j. core_of plan j == c)) (flat_more (jobs_of plan) t)
    ∙ (filter-append (λ j. core_of plan j == c) (flat_map (jobs_of plan) (range_with_len 0 t)) (jobs_of plan t)
    ∙ ap (λ js. jobs_among plan c (range_with_len 0 t) ++ js) (task_jobs_on plan c t))

-- the jobs of tasks below n
among_below : (plan : PlanModel) (n a m : ℕ) → a + m ≤ n → AllByRecursion (λ j. j.task.0 < n) (flat_map (jobs_of plan) (range_with_len a m))
among_below plan n a zero h = tt
among_below plan n a (suc m) h =
    all_joined (λ j. j.task.0 < n) (jobs_of plan a) (flat_map (jobs_of plan) (range_with_len (a + 1) m))
    (all_weaker (λ j. j.task.0 ≡ a) (λ j. j.task.0 < n) (λ j e. omega (arith, e, h)) (jobs_of plan a) (of_task plan a))
    (among_below plan n (a + 1) m (omega arith))

-- the jobs of a core are of tasks of the plan
pub core_jobs_below : (plan : PlanModel) (c : ℕ) → AllByRecursion (λ j. j.task.0 < length plan.tasks) (jobs_on plan c)
core_jobs_below plan c = all_filtered (λ j. j.task.0 < length plan.tasks) (λ j. core_of plan j == c) (flat_map (jobs_of plan) (range_with_len 0 (length plan.tasks))) (among_below plan (length plan.tasks) 0 (length plan.tasks) (omega arith))

-- the task of a job is one of the plan's, so it has a unit
pub has_unit : (plan : PlanModel) (c : ℕ) (x : JobId) → IsPlan plan → Contains (jobs_on plan c) x → 0 < length (units plan x)
has_unit plan c x ok on = (ok.whole x.task.0 (All-contains (λ (j : JobId). j.task.0 < length plan.tasks) (jobs_on plan c) x (All-from_recursion (λ (j : JobId). j.task.0 < length plan.tasks) (jobs_on plan c) (core_jobs_below plan c)) on)).work
