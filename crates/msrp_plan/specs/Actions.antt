-- What a job does next: one action, which is one tick.
use Rattle.std.specs.Prelude.{ℕ, List, Bool, true, false, ◌==◌, ◌&&◌, Option, Some, None, slice_get}
use Rattle.msrp_plan.specs.Plan.{PlanModel, units}
use Rattle.msrp_plan.specs.Jobs.{done, is_queued}
use Rattle.msrp_plan.specs.Levels.{is_global}
use Rattle.msrp_plan.specs.declared.ids.JobId.{JobId}
use Rattle.msrp_plan.specs.declared.ids.ResId.{ResId}
use Rattle.msrp_plan.specs.declared.units.Op.{Op}
use Rattle.msrp_plan.specs.declared.units.Op.TheVariants.{Run as RunUnit, Lock as LockUnit, Unlock as UnlockUnit}
use Rattle.msrp_plan.specs.declared.rows.Kind.{Kind}
use Rattle.msrp_plan.specs.declared.rows.Kind.TheVariants.{Idle, Run, Lock, Unlock, Take, Queue, Spin, Grant, Release}
use Rattle.msrp_plan.specs.declared.rows.Row.{Row}

-- the same resource, or none in both
abbrev pub same_res : Option ResId → Option ResId → Bool
same_res None None = true
same_res (Some a) (Some b) = a.0 == b.0
same_res _ _ = false

-- the resource that a unit names
abbrev pub res_of_unit : Op → Option ResId
res_of_unit RunUnit = None
res_of_unit (LockUnit g) = Some g
res_of_unit (UnlockUnit g) = Some g

-- the unit is a lock or an unlock of a global resource
abbrev pub is_global_unit : PlanModel → Op → Bool
is_global_unit plan RunUnit = false
is_global_unit plan (LockUnit g) = is_global plan g.0
is_global_unit plan (UnlockUnit g) = is_global plan g.0

-- the kinds of row that a unit allows, if its resource is global or not, its job queued or not
abbrev pub allows : Bool → Bool → Op → Kind → Bool
allows global queued RunUnit Run = true
allows false queued (LockUnit g) Lock = true
allows false queued (UnlockUnit g) Unlock = true
allows true false (LockUnit g) Take = true
allows true false (LockUnit g) Queue = true
allows true true (LockUnit g) Grant = true
allows true true (LockUnit g) Spin = true
allows true queued (UnlockUnit g) Release = true
allows _ _ _ _ = false

-- a row of an idle core
abbrev pub is_idle : Kind → Bool
is_idle Idle = true
is_idle _ = false

-- the row is of a kind that the unit allows its job, queued or not, on the unit's resource
abbrev pub does_unit : PlanModel → Bool → Row → Option Op → Bool
does_unit plan queued r None = false
does_unit plan queued r (Some u) = same_res r.res (res_of_unit u) && allows (is_global_unit plan u) queued u r.kind

-- the row does the next unit of a job that is queued or not and has done n units
abbrev pub does_unit_after : PlanModel → JobId → Bool → ℕ → Row → Bool
does_unit_after plan j queued done r = does_unit plan queued r (slice_get (units plan j) done)

-- the row does the next unit of the job; if no job runs, it is idle
abbrev pub does_next : PlanModel → List Row → Option JobId → Row → Bool
does_next plan pre None r = is_idle r.kind
does_next plan pre (Some j) r = does_unit_after plan j (is_queued pre j) (done j pre) r
