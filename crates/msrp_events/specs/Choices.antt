-- The job that a core should run after some events: EDF under the SRP, as in a plan's ticks.
use Rattle.std.specs.Prelude.{◌&&◌, if◌then◌else◌}
use Rattle.msrp_plan.specs.Common.{ℕ, List, Bool, true, false, not, nat_lt, Option, Some, None, filter, list_any, option_map, is_lt, PlanModel, level, key_cmp, least}
use Rattle.msrp_plan.specs.Ceiling.{ceiling_with}
use Rattle.msrp_plan.specs.declared.ids.JobId.{JobId}
use Rattle.msrp_events.specs.LiveJobs.{live_key, is_on, holds}
use Rattle.msrp_events.specs.declared.states.LiveJob.{LiveJob}

-- keys compare part by part, the absolute deadline first
abbrev pub is_before : PlanModel → LiveJob → LiveJob → Bool
is_before system i j = is_lt (key_cmp (live_key system i) (live_key system j))

-- the job belongs to the core, and is started or isn't
abbrev pub is_among : PlanModel → ℕ → Bool → LiveJob → Bool
is_among system c started j = is_on system c j && (if started then j.started else not j.started)

-- the first job of the core among those that are started, or among those that aren't
abbrev pub first_of : PlanModel → List LiveJob → ℕ → Bool → Option LiveJob
first_of system jobs c started = least (is_before system) (filter (is_among system c started) jobs)

-- the first job of the core that no core has switched to
abbrev pub head : PlanModel → List LiveJob → ℕ → Option LiveJob
head system jobs c = first_of system jobs c false

-- the first job of the core that is started
abbrev pub running : PlanModel → List LiveJob → ℕ → Option LiveJob
running system jobs c = first_of system jobs c true

-- the core's current ceiling, from what its jobs hold, and whether one waits for a global resource
abbrev pub ceiling : PlanModel → List LiveJob → ℕ → ℕ
ceiling system jobs c = ceiling_with system c (list_any (λ j. is_on system c j && j.waits) jobs) (λ g. list_any (λ j. is_on system c j && holds system g j) jobs)

-- the job comes before another, if there is one
abbrev pub comes_first : PlanModel → LiveJob → Option LiveJob → Bool
comes_first system h None = true
comes_first system h (Some s) = is_before system h s

-- the head if its level is above the ceiling and it comes first; otherwise the started job
abbrev pub chosen : PlanModel → ℕ → Option LiveJob → Option LiveJob → Option LiveJob
chosen system above None s = s
chosen system above (Some h) s = if nat_lt above (level system h.job.task.0) && comes_first system h s then Some h else s

-- the job that the core should run, or none
abbrev pub choice : PlanModel → List LiveJob → ℕ → Option JobId
choice system jobs c = option_map (λ j. j.job) (chosen system (ceiling system jobs c) (head system jobs c) (running system jobs c))
