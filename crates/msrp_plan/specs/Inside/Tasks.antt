-- What a clause sees of a stored task.
use Rattle.std.specs.Prelude.{ℕ, List, Bool, nat_lt, string_bytes, unwrap_or}
use Rattle.std.specs.declared.alloc.Global.{Global}
use Rattle.std.specs.declared.string.String.{String}
use Rattle.msrp_plan.specs.Plan.{TaskModel}
use Rattle.msrp_plan.specs.ReleaseTimes as model
use Rattle.msrp_plan.specs.declared.tasks.Task.{Task}
use Rattle.msrp_plan.specs.declared.times.Releases.{Releases}
use Rattle.msrp_plan.specs.declared.times.Releases.TheVariants.{Every, Listed}

-- its releases
abbrev pub times_view : Releases → model.ReleaseTimes
times_view (Every period offset) = model.Every period offset
times_view (Listed ticks) = model.Listed ticks.items

-- a task of a name
abbrev pub named_view : List ℕ → Task → TaskModel
named_view name task = record { name = name; core = task.core.0; times = times_view task.releases; deadline = task.deadline; units = task.units.items }

-- what a clause sees of a task, stored with its name
abbrev pub task_view : String Global × Task → TaskModel
task_view e = named_view (string_bytes e.0) e.1

-- there is a k-th release, and it comes before the tick
abbrev pub comes_before : model.ReleaseTimes → ℕ → ℕ → Bool
comes_before times tick k = nat_lt (unwrap_or (model.tick_of times k) tick) tick
