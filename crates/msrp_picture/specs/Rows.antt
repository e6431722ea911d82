-- What is drawn of a trace: its rows, those before the fault and the others, and the ticks.
use Rattle.msrp_plan.specs.Common.{ℕ, List, [], PlanModel, Result, Bool, false, Option, Some, None, Ok, Err, drop, length, min, max, nat_lt, nat_le, slice_range, take, unwrap_or, ⊤}
use Rattle.std.specs.Prelude.{◌==◌, ◌+◌, ◌-◌, ◌*◌, ◌/◌, ◌%◌, ◌&&◌, if◌then◌else◌, filter}
use Rattle.msrp_picture.specs.Types.{Asked, Block, Event, Fault, JobId, Row, Window}
use Rattle.msrp_picture.specs.declared.windows.TheConstants.{SHORT_RUN}

-- the rows before the fault that the verdict names: rows count from 1
abbrev pub legal_rows : List Row → Result ⊤ Fault → List Row
legal_rows rows (Ok good) = rows
legal_rows rows (Err fault) = take (fault.row - 1) rows

-- the rows from the fault on
abbrev pub later_rows : List Row → Result ⊤ Fault → List Row
later_rows rows (Ok good) = []
later_rows rows (Err fault) = drop (fault.row - 1) rows

-- how many ticks have a row, where each has one for each core
abbrev pub ticks_begun : PlanModel → List Row → ℕ
ticks_begun plan rows = length rows / plan.cores + min 1 (length rows % plan.cores)

-- the rows of a tick
abbrev pub rows_in : PlanModel → List Row → ℕ → List Row
rows_in plan rows t = slice_range rows (t * plan.cores) ((t + 1) * plan.cores)

-- the job is one of the task's
abbrev pub is_job_of : ℕ → Option JobId → Bool
is_job_of t None = false
is_job_of t (Some j) = j.task.0 == t

-- the rows of a task's jobs
abbrev pub task_rows : ℕ → List Row → List Row
task_rows t rows = filter (λ r. is_job_of t r.job) rows

-- ---- ticks
-- the ticks that are asked for, if there is one and all of them are the plan's
abbrev pub window_of : PlanModel → Asked → Option Window
window_of plan asked =
    let from = unwrap_or asked.from 0 in
    let to = unwrap_or asked.to (min plan.ticks (from + SHORT_RUN)) in
    if nat_lt from to && nat_le to plan.ticks then Some (record { from = from; to = to }) else None

-- some ticks of the block are drawn
abbrev pub is_seen : Window → Block → Bool
is_seen w b = nat_lt (max b.first w.from) (min b.end w.to)

-- the tick of the event is drawn, or is the end of the picture
abbrev pub is_at : Window → Event → Bool
is_at w e = nat_le w.from e.tick && nat_le e.tick w.to
