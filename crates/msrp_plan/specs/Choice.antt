-- Which job runs: earliest deadline first under the Stack Resource Policy (Baker 1991, SRP: a job
-- starts only if its preemption level is above the current ceiling; once started it never blocks).
use Rattle.std.specs.Prelude.{ℕ, List, [], ◌∷◌, Bool, true, ◌&&◌, not, nat_lt, Option, Some, None, if◌then◌else◌, filter}
use Rattle.std.specs.List.{best_of}
use Rattle.std.specs.Ordering.{is_lt, ordering_then, nat_cmp}
use Rattle.std.specs.declared.cmp.Ordering.{Ordering}
use Rattle.msrp_plan.specs.Plan.{PlanModel, key}
use Rattle.msrp_plan.specs.Jobs.{jobs_on, is_released, is_started, is_finished}
use Rattle.msrp_plan.specs.Levels.{level}
use Rattle.msrp_plan.specs.Ceiling.{ceiling}
use Rattle.msrp_plan.specs.declared.ids.JobId.{JobId}
use Rattle.msrp_plan.specs.declared.ids.JobKey.{JobKey}
use Rattle.msrp_plan.specs.declared.rows.Row.{Row}

-- keys compare part by part: absolute deadline, release, task number, job number
abbrev pub key_cmp : JobKey → JobKey → Ordering
key_cmp a b = ordering_then (nat_cmp a.deadline b.deadline) (ordering_then (nat_cmp a.release b.release) (ordering_then (nat_cmp a.task b.task) (nat_cmp a.k b.k)))

-- a job comes before another by its key
abbrev pub is_before : PlanModel → JobId → JobId → Bool
is_before plan i j = is_lt (key_cmp (key plan i) (key plan j))

-- the least of a list, none where it is empty
abbrev pub least : {X : Type 0} → (X → X → Bool) → List X → Option X
least lt [] = None
least lt (x ∷ xs) = Some (best_of lt x xs)

-- the least job of the core that is released in tick t and not started, for any test of "started"
abbrev pub first_ready : PlanModel → ℕ → ℕ → (JobId → Bool) → Option JobId
first_ready plan c t started = least (is_before plan) (filter (λ j. is_released plan t j && not (started j)) (jobs_on plan c))

-- the least job of the core that is started and unfinished, for any two such tests
abbrev pub first_unfinished : PlanModel → ℕ → (JobId → Bool) → (JobId → Bool) → Option JobId
first_unfinished plan c started finished = least (is_before plan) (filter (λ j. started j && not (finished j)) (jobs_on plan c))

-- the least job of the core that is released and, after these rows, not started
abbrev pub head : PlanModel → ℕ → ℕ → List Row → Option JobId
head plan c t pre = first_ready plan c t (is_started pre)

-- the least job of the core that is, after these rows, started and unfinished
abbrev pub running : PlanModel → ℕ → List Row → Option JobId
running plan c pre = first_unfinished plan c (is_started pre) (is_finished plan pre)

-- the job comes before another, if there is one
abbrev pub comes_first : PlanModel → JobId → Option JobId → Bool
comes_first plan h None = true
comes_first plan h (Some s) = is_before plan h s

-- the head if its level is above the ceiling and it comes first; otherwise the running job
abbrev pub chosen : PlanModel → ℕ → Option JobId → Option JobId → Option JobId
chosen plan above None s = s
chosen plan above (Some h) None = if nat_lt above (level plan h.task.0) then Some h else None
chosen plan above (Some h) (Some s) = if nat_lt above (level plan h.task.0) && is_before plan h s then Some h else Some s

-- the job of the core that runs in tick t after these rows, or none
abbrev pub choice : PlanModel → ℕ → ℕ → List Row → Option JobId
choice plan c t pre = chosen plan (ceiling plan c pre) (head plan c t pre) (running plan c pre)
