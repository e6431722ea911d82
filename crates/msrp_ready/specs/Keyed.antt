-- Jobs with their releases, and by their keys.
use Rattle.std.specs.Prelude.{◌+◌, if◌then◌else◌}
use Rattle.msrp_plan.specs.Common.{List, map, Option, Some, None, is_lt, PlanModel, release, task_at, key_cmp}
use Rattle.msrp_plan.specs.declared.ids.JobId.{JobId}
use Rattle.msrp_plan.specs.declared.ids.JobKey.{JobKey}
use Rattle.msrp_ready.specs.declared.keyed.Entry.{Entry}

-- a job of a plan with its release
abbrev pub entry : PlanModel → JobId → Entry
entry plan j = record { release = release plan j; task = j.task.0; k = j.k }

-- the key of an entry's job, with the release of the entry
abbrev pub entry_key : PlanModel → Entry → JobKey
entry_key plan e = record { deadline = e.release + (task_at plan e.task).deadline; release = e.release; task = e.task; k = e.k }

-- the keys of the jobs of entries
abbrev pub entry_keys : PlanModel → List Entry → List JobKey
entry_keys plan entries = map (entry_key plan) entries

-- the job of a key
abbrev pub job_of : JobKey → JobId
job_of key = record { task = record { 0 = key.task }; k = key.k }

-- the first of a key and another; the key itself if there is no other
abbrev pub earlier_of : JobKey → Option JobKey → JobKey
earlier_of key None = key
earlier_of key (Some other) = if is_lt (key_cmp key other) then key else other
