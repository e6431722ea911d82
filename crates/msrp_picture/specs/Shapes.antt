-- What there is to see in a picture. Of the rows from the fault on only who runs and what jobs do
-- is shown, and as not legal; nothing else is drawn after the fault.
use Rattle.std.specs.Prelude.{◌≡◌, ◌∷◌, ◌+◌, ◌++◌, if◌then◌else◌, filter, filter_map}
use Rattle.msrp_plan.specs.Common.{ℕ, List, [], PlanModel, Result, Option, Some, None, Ok, Err, IfSome, IsSomeAnd, fold, length, map, ⊤, flat_map, range_with_len, resources, is_finished, is_global, is_row_of, jobs_of, release, task_of}
use Rattle.msrp_audit.specs.Audits.{IsDueRow}
use Rattle.msrp_picture.specs.Types.{Block, Event, Fault, JobId, Life, Look, Moment, Row, Shapes, Violation, Window}
use Rattle.msrp_picture.specs.Blocks.{ceiling_tick, ceilings, lasting, merged, queue_ticks, row_blocks, sections}
use Rattle.msrp_picture.specs.Rows.{is_at, is_seen, task_rows, ticks_begun}
use Rattle.msrp_picture.specs.declared.shapes.Lane.TheVariants.{Core, Task}
use Rattle.msrp_picture.specs.declared.shapes.Look.TheVariants.{Late, Life as Lived}
use Rattle.msrp_picture.specs.declared.shapes.Moment.TheVariants.{Completion, Deadline, Release}

-- ---- the lives of jobs: release, absolute deadline and completion
-- the tick after the last row of a job
abbrev pub after_last : JobId → List Row → ℕ
after_last j rows = fold (λ _ r. r.tick + 1) 0 (filter (is_row_of j) rows)

-- a job that isn't finished lasts as long as there are rows
abbrev pub life_of : PlanModel → List Row → JobId → Life
life_of plan rows j = record {
  job = j;
  release = release plan j;
  deadline = release plan j + (task_of plan j).deadline;
  end = if is_finished plan rows j then after_last j rows else ticks_begun plan rows;
  is_finished = is_finished plan rows j;
}

-- of the jobs of a task, and of the plan
abbrev pub task_lives : PlanModel → List Row → ℕ → List Life
task_lives plan rows t = map (life_of plan rows) (jobs_of plan t)

abbrev pub lives : PlanModel → List Row → List Life
lives plan rows = flat_map (task_lives plan rows) (range_with_len 0 (length plan.tasks))

-- what is drawn from a tick to the end of a life, and a moment of a life
abbrev pub life_block : Look → ℕ → Life → Block
life_block look first life = lasting (Task life.job.task) first life.end look (Some life.job) None

-- a moment in the life of a job
abbrev pub event_of : Moment → ℕ → Life → Event
event_of moment tick life = record { moment = moment; tick = tick; job = life.job }

-- ---- all shapes
-- who runs on each core, and its ceilings: a block for each longest stretch
abbrev pub cores_blocks : PlanModel → List Row → List Row → List Block
cores_blocks plan legal later =
    flat_map (λ c. row_blocks (Core (record { 0 = c })) legal later ++ merged (filter_map (ceiling_tick (record { 0 = c })) (ceilings plan [] legal))) (range_with_len 0 plan.cores)

-- what the jobs of each task do, and their critical sections
abbrev pub tasks_blocks : PlanModel → List Row → List Row → List Block
tasks_blocks plan legal later =
    flat_map (λ t. row_blocks (Task (record { 0 = t })) legal later ++ sections (record { 0 = t }) (ticks_begun plan legal) (task_rows t legal)) (range_with_len 0 (length plan.tasks))

-- the queues of the global resources
abbrev pub queues_blocks : PlanModel → List Row → List Block
queues_blocks plan legal = flat_map (λ g. merged (queue_ticks plan legal (record { 0 = g }))) (filter (is_global plan) (resources plan))

-- the lives of jobs, and where they are late
abbrev pub lives_blocks : List Life → List Block
lives_blocks all = map (λ life. life_block (Lived life.is_finished) life.release life) all ++ map (λ life. life_block Late life.deadline life) all

-- all blocks of a trace
abbrev pub blocks : PlanModel → List Row → List Row → List Life → List Block
blocks plan legal later all = lives_blocks all ++ cores_blocks plan legal later ++ tasks_blocks plan legal later ++ queues_blocks plan legal

-- the releases, absolute deadlines and completions that are drawn
abbrev pub events : Window → List Life → List Event
events w all =
    filter (is_at w) (map (λ life. event_of Release life.release life) all ++ map (λ life. event_of Deadline life.deadline life) all
    ++ map (λ life. event_of Completion life.end life) (filter (λ life. life.is_finished) all))

-- the first row that violates a rule, if there is one: a trace may also end too early
abbrev pub violation : List Row → Result ⊤ Fault → Option Violation
violation later (Ok good) = None
violation [] (Err fault) = None
violation (r ∷ rest) (Err fault) = Some (record { row = r; rule = fault.rule })

-- the row is the one that is expected of the core of the violation after the legal rows
abbrev pub IsExpected : PlanModel → List Row → Option Violation → Option Row → Type 0
IsExpected plan legal violation row = IfSome row (λ due. IsSomeAnd violation (λ v. IsDueRow plan legal v.row.core.0 due))

-- what there is to see in the ticks of a window
pub record AreShapes (plan : PlanModel) (legal later : List Row) (found : Result ⊤ Fault) (w : Window) (shapes : Shapes) : Type 0 where
  pub blocks : shapes.blocks.items ≡ filter (is_seen w) (blocks plan legal later (lives plan legal))
  pub events : shapes.events.items ≡ events w (lives plan legal)
  pub violation : shapes.violation ≡ violation later found
  pub expected : IsExpected plan legal shapes.violation shapes.expected
