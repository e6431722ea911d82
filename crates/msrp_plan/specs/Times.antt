-- A task's release times as a plan's reader sees them.
use Rattle.std.specs.Prelude.{ℕ, length, ◌<◌, ⊤}
use Rattle.msrp_plan.specs.ReleaseTimes as model
use Rattle.msrp_plan.specs.declared.times.Times.{Times}
use Rattle.msrp_plan.specs.declared.times.Times.TheVariants.{Every, Listed}

-- of a list, the number of its ticks
abbrev pub times_told : model.ReleaseTimes → Times
times_told (model.Every period offset) = Every period offset
times_told (model.Listed ticks) = Listed (length ticks)

-- there is a k-th release: of a list as many as it has ticks
abbrev pub HasRelease : Times → ℕ → Type 0
HasRelease (Every period offset) k = ⊤
HasRelease (Listed count) k = k < count
