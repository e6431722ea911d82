-- How the examples write plans and rows: as their texts, field by field.
use Rattle.std.specs.Prelude.{ℕ, ◌-◌, List, [], ◌∷◌, ◌++◌, Option, Some, None, refl, length, map, replicate, set}
use Rattle.std.specs.Prelude as list
use Rattle.std.specs.List.{range_with_len}
use Rattle.msrp_plan.specs.Plan.{TaskModel}
pub use Rattle.msrp_plan.specs.Plan.{PlanModel}
use Rattle.msrp_plan.specs.ReleaseTimes.{Every, Listed}
use Rattle.msrp_plan.specs.declared.faults.Fault.{Fault}
use Rattle.msrp_plan.specs.declared.faults.Rule.{Rule}
pub use Rattle.msrp_plan.specs.declared.ids.JobId.{JobId}
use Rattle.msrp_plan.specs.declared.units.Op.{Op}
use Rattle.msrp_plan.specs.declared.units.Op.TheVariants as unit
use Rattle.msrp_plan.specs.declared.rows.Kind.TheVariants as kind
pub use Rattle.msrp_plan.specs.declared.rows.Row.{Row}

-- ---- plans
-- a plan: its numbers of cores and ticks, its resources and its tasks
abbrev pub plan_with : ℕ → ℕ → List (List ℕ) → List TaskModel → PlanModel
plan_with cores ticks resources tasks = record { cores = cores; ticks = ticks; resources = resources; tasks = tasks }

-- a task: its name, core, period, relative deadline, offset and units
abbrev pub task : List ℕ → ℕ → ℕ → ℕ → ℕ → List Op → TaskModel
task name core period deadline offset units = record { name = name; core = core; times = Every period offset; deadline = deadline; units = units }

-- a listed task: its name, core, relative deadline, ticks and units
abbrev pub listed : List ℕ → ℕ → ℕ → List ℕ → List Op → TaskModel
listed name core deadline ticks units = record { name = name; core = core; times = Listed ticks; deadline = deadline; units = units }

-- n units of work
abbrev pub works : ℕ → List Op
works n = replicate n unit.Run

-- a lock of a resource, and an unlock
abbrev pub locks : ℕ → Op
locks g = unit.Lock (record { 0 = g })

abbrev pub unlocks : ℕ → Op
unlocks g = unit.Unlock (record { 0 = g })

-- n units of work inside a lock
abbrev pub section : ℕ → ℕ → List Op
section g n = locks g ∷ works n ++ unlocks g ∷ []

-- job k of task t
abbrev pub job : ℕ → ℕ → JobId
job t k = record { task = record { 0 = t }; k = k }

-- ---- rows: a tick, a core, what the core does, and then job and resource
abbrev pub idle : ℕ → ℕ → Row
idle t c = record { tick = t; core = record { 0 = c }; kind = kind.Idle; job = None; res = None; ahead = None; shape = refl; carrier = refl }

abbrev pub run : ℕ → ℕ → JobId → Row
run t c j = record { tick = t; core = record { 0 = c }; kind = kind.Run; job = Some j; res = None; ahead = None; shape = refl; carrier = refl }

-- the job works in n ticks, from tick t on
abbrev pub runs : ℕ → ℕ → ℕ → JobId → List Row
runs t n c j = map (λ at. run at c j) (range_with_len t n)

abbrev pub lock : ℕ → ℕ → JobId → ℕ → Row
lock t c j g = record { tick = t; core = record { 0 = c }; kind = kind.Lock; job = Some j; res = Some (record { 0 = g }); ahead = None; shape = refl; carrier = refl }

abbrev pub unlock : ℕ → ℕ → JobId → ℕ → Row
unlock t c j g = record { tick = t; core = record { 0 = c }; kind = kind.Unlock; job = Some j; res = Some (record { 0 = g }); ahead = None; shape = refl; carrier = refl }

abbrev pub take : ℕ → ℕ → JobId → ℕ → Row
take t c j g = record { tick = t; core = record { 0 = c }; kind = kind.Take; job = Some j; res = Some (record { 0 = g }); ahead = None; shape = refl; carrier = refl }

abbrev pub queue : ℕ → ℕ → JobId → ℕ → Row
queue t c j g = record { tick = t; core = record { 0 = c }; kind = kind.Queue; job = Some j; res = Some (record { 0 = g }); ahead = None; shape = refl; carrier = refl }

-- a queue row that carries that n jobs are ahead
abbrev pub queue_behind : ℕ → ℕ → JobId → ℕ → ℕ → Row
queue_behind t c j g n = record { tick = t; core = record { 0 = c }; kind = kind.Queue; job = Some j; res = Some (record { 0 = g }); ahead = Some n; shape = refl; carrier = refl }

abbrev pub spin : ℕ → ℕ → JobId → ℕ → Row
spin t c j g = record { tick = t; core = record { 0 = c }; kind = kind.Spin; job = Some j; res = Some (record { 0 = g }); ahead = None; shape = refl; carrier = refl }

abbrev pub grant : ℕ → ℕ → JobId → ℕ → Row
grant t c j g = record { tick = t; core = record { 0 = c }; kind = kind.Grant; job = Some j; res = Some (record { 0 = g }); ahead = None; shape = refl; carrier = refl }

abbrev pub release : ℕ → ℕ → JobId → ℕ → Row
release t c j g = record { tick = t; core = record { 0 = c }; kind = kind.Release; job = Some j; res = Some (record { 0 = g }); ahead = None; shape = refl; carrier = refl }

-- ---- changed rows
-- another row in place of the n-th, counted from 1
abbrev pub changed : List Row → ℕ → Row → List Row
changed rows n r = set rows (n - 1) r

-- all but the last row
abbrev pub without_last : List Row → List Row
without_last rows = list.take (length rows - 1) rows

-- the verdict: row n, counted from 1, violates the rule
abbrev pub fault : ℕ → Rule → Option Fault
fault n rule = Some (record { row = n; rule = rule })
