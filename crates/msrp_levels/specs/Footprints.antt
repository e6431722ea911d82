-- What a task does with each resource.
use Rattle.std.specs.Prelude.{◌+◌, ◌-◌, ◌^◌, ◌<◌}
use Rattle.msrp_plan.specs.Common.{ℕ, List, Bool, true, false, map, max, drop, set, length, slice_index_or, ⊤, list_any, range_with_len, PlanModel, TaskModel, is_lock_of, level_of, most_resources}
use Rattle.msrp_plan.specs.declared.units.Op.{Op}
use Rattle.msrp_plan.specs.Bounds.{to_unlock, longest_section}
use Rattle.msrp_plan.specs.declared.units.Op.TheVariants.{Run, Lock, Unlock}
use Rattle.msrp_levels.specs.declared.footprints.Use.{Use}
use Rattle.msrp_levels.specs.declared.footprints.Footprint.{Footprint}

-- what the units from the n-th on do with the resource
abbrev pub use_from : List Op → ℕ → ℕ → Use
use_from us n g = record { locked = list_any (is_lock_of g) (drop n us); longest = longest_section g (drop n us); past_unlock = n + to_unlock g (drop n us) }

-- what the units from the n-th on do with each resource
unfoldable pub uses_from : List Op → ℕ → List Use
uses_from us n = map (use_from us n) (range_with_len 0 most_resources)

-- what a task's units do with each resource
abbrev pub uses_of : List Op → List Use
uses_of us = uses_from us 0

-- a task as the resources see it
abbrev pub footprint_of : PlanModel → TaskModel → Footprint
footprint_of plan task = record { core = record { 0 = task.core }; level = level_of plan task; uses = uses_of task.units }

-- a resource that is used no more
abbrev pub unused : Use
unused = record { locked = false; longest = 0; past_unlock = 0 }

-- what is done with one resource
abbrev pub use_at : List Use → ℕ → Use
use_at uses g = slice_index_or uses g unused

-- the task locks the resource
abbrev pub locks_in : ℕ → Footprint → Bool
locks_in g f = (use_at f.uses g).locked

-- its longest section on the resource
abbrev pub longest_in : ℕ → Footprint → ℕ
longest_in g f = (use_at f.uses g).longest

-- ---- one unit more in front
-- with a lock at the place a section begins
abbrev pub with_lock : ℕ → Use → Use
with_lock place u = record u { locked = true; longest = max u.longest (u.past_unlock - (place + 1)) }

-- with an unlock at the place a section ends
abbrev pub with_unlock : ℕ → Use → Use
with_unlock place u = record u { past_unlock = place + 1 }

-- the uses after one more unit, at its place
abbrev pub passed : ℕ → Op → List Use → List Use
passed place Run uses = uses
passed place (Lock r) uses = set uses r.0 (with_lock place (use_at uses r.0))
passed place (Unlock r) uses = set uses r.0 (with_unlock place (use_at uses r.0))

-- the unit's resource is one of these, and the units passed so far are after the index
abbrev pub CanPass : ℕ → Op → List Use → Type 0
CanPass place Run uses = ⊤
CanPass place (Lock r) uses = (r.0 < length uses) × (place < (use_at uses r.0).past_unlock)
CanPass place (Unlock r) uses = (r.0 < length uses) × (place + 1 < 2 ^ 32)
