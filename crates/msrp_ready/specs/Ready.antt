-- The ready jobs of a core: released and not yet taken.
use Rattle.std.specs.Prelude.{◌&&◌}
use Rattle.msrp_plan.specs.Common.{ℕ, List, Bool, false, not, nat_le, Option, Some, None, count_by, list_any, option_and_then, PlanModel, release, jobs_on, same_job}
use Rattle.msrp_plan.specs.declared.ids.JobId.{JobId}
use Rattle.msrp_plan.specs.Choice.{first_ready}

-- the ready jobs of a core of a plan: the tick up to which jobs are released (none before the
-- first), the taken jobs, and the number of key comparisons for releasing and taking
pub record ReadyModel : Type 0 where
  pub plan : PlanModel
  pub core : ℕ
  pub tick : Option ℕ
  pub taken : List JobId
  pub compared : ℕ

-- the job is one of these
abbrev pub is_among : List JobId → JobId → Bool
is_among js j = list_any (same_job j) js

-- a release is at a tick or before it; before the first tick none is
abbrev pub has_come : Option ℕ → ℕ → Bool
has_come None release = false
has_come (Some t) release = nat_le release t

-- the number of released jobs of the core
abbrev pub released : ReadyModel → ℕ
released ready = count_by (λ j. has_come ready.tick (release ready.plan j)) (jobs_on ready.plan ready.core)

-- a job of the core is still to be released by this tick
abbrev pub has_release_by : ReadyModel → ℕ → Bool
has_release_by ready t = list_any (λ j. has_come (Some t) (release ready.plan j) && not (has_come ready.tick (release ready.plan j))) (jobs_on ready.plan ready.core)

-- the least job of the core that is released and not taken; none before the first tick
abbrev pub head : ReadyModel → Option JobId
head ready = option_and_then (λ t. first_ready ready.plan ready.core t (is_among ready.taken)) ready.tick
