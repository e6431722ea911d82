-- A report on each task: counts over the rows of a trace, and the plan's bounds. (The survey of
-- Davis and Burns 2011 has the terms: response time, spin delay, blocking.)
use Rattle.msrp_plan.specs.Common.{ℕ, List, [], Bool, nat_lt, nat_le, fold, map, max, count_by, length, sum_by, range_with_len, PlanModel, TaskModel, task_at, key, release, is_queue, jobs_of, is_row_of, is_finished, uses, is_global, greatest, resources, is_grant, is_spin_of, spin_bound, blocked_bound, blocked}
use Rattle.msrp_report.specs.Common.{JobId, Line, Row}
use Rattle.std.specs.Prelude.{◌∷◌, ◌&&◌, ◌+◌, ◌-◌, if◌then◌else◌, filter}

-- ---- response
-- the tick of the job's last row, 0 if it has none
abbrev pub last_tick : JobId → List Row → ℕ
last_tick j rows = fold (λ _ r. r.tick) 0 (filter (is_row_of j) rows)

-- the absolute deadline of the job: it should be finished by then
abbrev pub absolute_deadline : PlanModel → JobId → ℕ
absolute_deadline plan j = (key plan j).deadline

-- from the job's release to the end of its last action; 0 if it isn't finished
abbrev pub response : PlanModel → List Row → JobId → ℕ
response plan rows j = if is_finished plan rows j then (last_tick j rows + 1) - release plan j else 0

-- the job finished after its absolute deadline; or it didn't, and that isn't after the last tick
abbrev pub is_late : PlanModel → List Row → JobId → Bool
is_late plan rows j = if is_finished plan rows j then nat_lt (absolute_deadline plan j) (last_tick j rows + 1) else nat_le (absolute_deadline plan j) plan.ticks

-- ---- spinning
-- the row in which the job joins a queue, and the one in which its wait is granted
abbrev pub is_queue_of : JobId → Row → Bool
is_queue_of j r = is_row_of j r && is_queue r.kind

abbrev pub is_granted : JobId → Row → Bool
is_granted j r = is_row_of j r && is_grant r.kind

-- the number of the job's spins
abbrev pub spins : List Row → JobId → ℕ
spins rows j = count_by (is_spin_of j) rows

-- its spins up to its next grant, or to the end
abbrev pub spins_to_grant : JobId → List Row → ℕ
spins_to_grant j [] = 0
spins_to_grant j (r ∷ rows) = if is_granted j r then 0 else (if is_spin_of j r then 1 else 0) + spins_to_grant j rows

-- its most spins in one wait, from joining the queue to its grant or the end; 0 if it never waits
abbrev pub longest_wait : JobId → List Row → ℕ
longest_wait j [] = 0
longest_wait j (r ∷ rows) = max (if is_queue_of j r then spins_to_grant j rows else 0) (longest_wait j rows)

-- ---- bounds
-- the most spins of a job of the task in one wait: the greatest bound of the global resources that
-- it locks; 0 if it locks none
abbrev pub task_spin_bound : PlanModel → TaskModel → ℕ
task_spin_bound plan task = greatest (map (λ g. spin_bound plan g task.core) (filter (λ g. uses g task && is_global plan g) (resources plan)))

-- ---- the line of a task, by its number
-- over some of its jobs
abbrev pub line_over : PlanModel → List Row → ℕ → List JobId → Line
line_over plan rows t js = record {
  jobs = length (jobs_of plan t);
  finished = count_by (is_finished plan rows) js;
  late = count_by (is_late plan rows) js;
  worst_response = greatest (map (response plan rows) js);
  spin = sum_by (spins rows) js;
  worst_spin = greatest (map (λ j. longest_wait j rows) js);
  blocked = sum_by (blocked plan rows) js;
  worst_blocked = greatest (map (blocked plan rows) js);
  spin_bound = task_spin_bound plan (task_at plan t);
  blocked_bound = blocked_bound plan (task_at plan t);
}

-- over all of them
abbrev pub line_of : PlanModel → List Row → ℕ → Line
line_of plan rows t = line_over plan rows t (jobs_of plan t)

-- a line for each task, in their order
abbrev pub lines_of : PlanModel → List Row → List Line
lines_of plan rows = map (line_of plan rows) (range_with_len 0 (length plan.tasks))
