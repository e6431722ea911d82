-- A trace as text: a record of the version and the plan's numbers, then one for each row.
use Rattle.std.specs.Prelude.{◌&&◌, ◌∷◌, ◌++◌}
use Rattle.msrp_plan.specs.Common.{ℕ, Bool, true, nat_lt, List, [], length, slice_index_or, codes, decimal, Option, Some, None, flat_map, PlanModel, task_of}
use Rattle.msrp_plan.specs.Words.{kind_text}
use Rattle.msrp_plan.specs.declared.ids.JobId.{JobId}
use Rattle.msrp_plan.specs.declared.ids.ResId.{ResId}
use Rattle.msrp_plan.specs.declared.rows.Row.{Row}
use Rattle.msrp_plan.specs.declared.rows.TextVersion.{TextVersion}
use Rattle.msrp_plan.specs.declared.rows.TextVersion.TheVariants.{V1, V2}
use Rattle.msrp_text.specs.PlanText.{record_text, version_text}

-- the first word of a trace's text
unfoldable pub trace_word : List ℕ
trace_word = codes "msrp-trace"

-- the field of a job, resource or ahead that a row lacks
unfoldable pub dash : List ℕ
dash = codes "-"

-- the name of the job's task, the job's number, and the name of the resource
abbrev pub task_text : PlanModel → Option JobId → List ℕ
task_text plan None = dash
task_text plan (Some j) = (task_of plan j).name

abbrev pub job_text : Option JobId → List ℕ
job_text None = dash
job_text (Some j) = decimal j.k

abbrev pub res_text : PlanModel → Option ResId → List ℕ
res_text plan None = dash
res_text plan (Some g) = slice_index_or plan.resources g.0 []

-- the ahead, which version 1 omits
abbrev pub ahead_text : Option ℕ → List ℕ
ahead_text None = dash
ahead_text (Some n) = decimal n

abbrev pub ahead_fields : TextVersion → Option ℕ → List (List ℕ)
ahead_fields V1 ahead = []
ahead_fields V2 ahead = ahead_text ahead ∷ []

-- a row: tick, core, kind, task, job, resource, and in version 2 ahead
abbrev pub row_fields : TextVersion → PlanModel → Row → List (List ℕ)
row_fields version plan r = decimal r.tick ∷ decimal r.core.0 ∷ kind_text r.kind ∷ task_text plan r.job ∷ job_text r.job ∷ res_text plan r.res ∷ ahead_fields version r.ahead

-- the text of a row
abbrev pub row_text : TextVersion → PlanModel → Row → List ℕ
row_text version plan r = record_text (row_fields version plan r)

-- the first record: the version, and the plan's numbers of cores and of ticks
abbrev pub head_fields : TextVersion → PlanModel → List (List ℕ)
head_fields version plan = trace_word ∷ version_text version ∷ decimal plan.cores ∷ decimal plan.ticks ∷ []

-- the text of the first record
abbrev pub head_text : TextVersion → PlanModel → List ℕ
head_text version plan = record_text (head_fields version plan)

-- the text of a trace
abbrev pub trace_text : TextVersion → PlanModel → List Row → List ℕ
trace_text version plan rows = head_text version plan ++ flat_map (row_text version plan) rows

-- the job, if there is one, is of a task of the plan, and the resource is one of the plan's
abbrev pub is_task_of : PlanModel → Option JobId → Bool
is_task_of plan None = true
is_task_of plan (Some j) = nat_lt j.task.0 (length plan.tasks)

abbrev pub is_res_of : PlanModel → Option ResId → Bool
is_res_of plan None = true
is_res_of plan (Some g) = nat_lt g.0 (length plan.resources)

-- the row names only what the plan has
abbrev pub is_named : PlanModel → Row → Bool
is_named plan r = is_task_of plan r.job && is_res_of plan r.res
