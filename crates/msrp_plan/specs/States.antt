-- How far a job is, in one record, which the choice and the next action read.
use Rattle.std.specs.Prelude.{ℕ, List, Bool, true, if◌then◌else◌, not, ◌+◌}
use Rattle.msrp_plan.specs.Jobs.{is_row_of, is_waiting, is_started, is_queued, done}
use Rattle.msrp_plan.specs.declared.ids.JobId.{JobId}
use Rattle.msrp_plan.specs.declared.rows.Row.{Row}

-- whether a job is started, whether it is queued, and how many of its units it has done
pub record JobState : Type 0 where
  pub job : JobId
  pub started : Bool
  pub queued : Bool
  pub done : ℕ

-- how far the job is after these rows
abbrev pub state_after : List Row → JobId → JobState
state_after pre j = record { job = j; started = is_started pre j; queued = is_queued pre j; done = done j pre }

-- the state of the row's job after the row: started, and either waiting or with one more unit done
abbrev pub moved_by : Row → JobState → JobState
moved_by r s = record { job = s.job; started = true; queued = is_waiting r.kind; done = s.done + (if not (is_waiting r.kind) then 1 else 0) }

-- the state of any job after one more row
abbrev pub state_with : Row → JobState → JobState
state_with r s = if is_row_of s.job r then moved_by r s else s
