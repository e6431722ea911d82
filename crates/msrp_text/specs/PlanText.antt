-- A plan as text: version 2 if it has a listed task, otherwise 1.
use Rattle.std.specs.Prelude.{◌∷◌, ◌++◌, ◌+◌, if◌then◌else◌}
use Rattle.msrp_plan.specs.Common.{ℕ, List, [], codes, decimal, map, slice_index_or, flat_map, list_any, PlanModel, TaskModel, Every, Listed, ReleaseTimes, listed_ticks}
use Rattle.msrp_plan.specs.declared.rows.TextVersion.{TextVersion}
use Rattle.msrp_plan.specs.declared.rows.TextVersion.TheVariants.{V1, V2}
use Rattle.msrp_plan.specs.declared.units.Op.{Op}
use Rattle.msrp_plan.specs.declared.units.Step.{Step}
use Rattle.msrp_plan.specs.ReleaseTimes.{is_listed}
use Rattle.msrp_plan.specs.declared.units.Op.TheVariants as unit
use Rattle.msrp_plan.specs.declared.units.Step.TheVariants.{Run, Lock, Unlock}

-- ---- records
-- a record: its fields with commas between them, and a line feed
abbrev pub next_fields : List (List ℕ) → List ℕ
next_fields [] = codes "\n"
next_fields (field ∷ fields) = codes "," ++ field ++ next_fields fields

-- the text of a record
abbrev pub record_text : List (List ℕ) → List ℕ
record_text [] = codes "\n"
record_text (field ∷ fields) = field ++ next_fields fields

-- the text of some records
abbrev pub records_text : List (List (List ℕ)) → List ℕ
records_text records = flat_map record_text records

-- ---- units
-- a unit of work joins the run that follows it
abbrev pub joined : List Step → List Step
joined [] = Run 1 ∷ []
joined (Run n ∷ steps) = Run (n + 1) ∷ steps
joined (Lock g ∷ steps) = Run 1 ∷ Lock g ∷ steps
joined (Unlock g ∷ steps) = Run 1 ∷ Unlock g ∷ steps

-- units as steps, without adjacent runs
abbrev pub steps_of : List Op → List Step
steps_of [] = []
steps_of (unit.Run ∷ us) = joined (steps_of us)
steps_of (unit.Lock g ∷ us) = Lock g ∷ steps_of us
steps_of (unit.Unlock g ∷ us) = Unlock g ∷ steps_of us

-- the record of a step
abbrev pub step_record : PlanModel → Step → List (List ℕ)
step_record plan (Run n) = codes "op" ∷ codes "run" ∷ decimal n ∷ []
step_record plan (Lock g) = codes "op" ∷ codes "lock" ∷ slice_index_or plan.resources g.0 [] ∷ []
step_record plan (Unlock g) = codes "op" ∷ codes "unlock" ∷ slice_index_or plan.resources g.0 [] ∷ []

-- ---- tasks
abbrev pub release_record : ℕ → List (List ℕ)
release_record tick = codes "release" ∷ decimal tick ∷ []

-- the record that declares a task: name, core and numbers
abbrev pub declaration : TaskModel → ReleaseTimes → List (List ℕ)
declaration task (Every period offset) = codes "task" ∷ task.name ∷ decimal task.core ∷ decimal period ∷ decimal task.deadline ∷ decimal offset ∷ []
declaration task (Listed ticks) = codes "listed" ∷ task.name ∷ decimal task.core ∷ decimal task.deadline ∷ []

-- a task: its declaration, its listed releases, its units
abbrev pub times_records : TaskModel → List (List (List ℕ))
times_records task = declaration task task.times ∷ map release_record (listed_ticks task.times)

-- all records of a task
abbrev pub task_records : PlanModel → TaskModel → List (List (List ℕ))
task_records plan task = times_records task ++ map (step_record plan) (steps_of task.units)

-- ---- plans
-- the number of a version
abbrev pub version_text : TextVersion → List ℕ
version_text V1 = codes "1"
version_text V2 = codes "2"

-- a listed task needs version 2
abbrev pub version_of : PlanModel → TextVersion
version_of plan = if list_any (λ task. is_listed task.times) plan.tasks then V2 else V1

-- the record of the version
abbrev pub version_record : TextVersion → List (List ℕ)
version_record version = codes "msrp" ∷ version_text version ∷ []

-- the first three records
abbrev pub head_records : PlanModel → List (List (List ℕ))
head_records plan =
    version_record (version_of plan)
    ∷ (codes "cores" ∷ decimal plan.cores ∷ [])
    ∷ (codes "ticks" ∷ decimal plan.ticks ∷ [])
    ∷ []

-- the record of a resource
abbrev pub resource_record : List ℕ → List (List ℕ)
resource_record name = codes "resource" ∷ name ∷ []

-- the records of the plan, and its text
unfoldable pub plan_records : PlanModel → List (List (List ℕ))
plan_records plan = head_records plan ++ (map resource_record plan.resources ++ flat_map (task_records plan) plan.tasks)

abbrev pub plan_text : PlanModel → List ℕ
plan_text plan = records_text (plan_records plan)
