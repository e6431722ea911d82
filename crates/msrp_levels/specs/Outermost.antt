-- How the units of a task hold resources, as one pass counts them.
use Rattle.std.specs.Prelude.{◌+◌, ◌-◌, ◌<◌}
use Rattle.msrp_plan.specs.Common.{ℕ, ⊤}
use Rattle.msrp_plan.specs.declared.units.Op.{Op}
use Rattle.msrp_plan.specs.Limits.{most_units}
use Rattle.msrp_plan.specs.declared.units.Op.TheVariants.{Run, Lock, Unlock}

-- the number of held resources after one more unit
abbrev pub held_with_unit : ℕ → Op → ℕ
held_with_unit held Run = held
held_with_unit held (Lock r) = held + 1
held_with_unit held (Unlock r) = held - 1

-- an unlock has something to unlock
abbrev pub CanFollow : ℕ → Op → Type 0
CanFollow held (Unlock r) = 0 < held
CanFollow held _ = held < most_units

-- a locked resource is one of the first
abbrev pub IsLockBelow : ℕ → Op → Type 0
IsLockBelow n (Lock r) = r.0 < n
IsLockBelow n _ = ⊤
