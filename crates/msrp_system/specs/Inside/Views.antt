-- What a clause sees of a system as it is stored.
use Rattle.std.specs.Prelude.{◌&&◌, ◌==◌, ◌≡◌, ◌<◌, ◌≤◌}
use Rattle.msrp_plan.specs.Common.{ℕ, Bool, List, not, list_any, map, length, range_with_len, PlanModel, TaskModel, task_at, level_of, uses, is_global, local_ceiling, top}
use Rattle.msrp_system.specs.Systems.{system_of, most_cores, most_tasks, most_resources, most_steps}
use Rattle.msrp_system.specs.declared.parts.Parts.TheInside as parts
use Rattle.msrp_system.specs.declared.systems.System.TheInside as system

-- what a clause sees of the parts of a system
abbrev pub parts_view : parts.Inside → PlanModel
parts_view p = system_of p.cores p.resources.items p.tasks.items

-- the numbers of a system are within their limits
pub record IsSystem (system : PlanModel) : Type 0 where
  pub cores : system.cores ≤ most_cores
  pub resources : length system.resources ≤ most_resources
  pub tasks : length system.tasks ≤ most_tasks
  pub core : (t : ℕ) → t < length system.tasks → (task_at system t).core < system.cores
  pub steps : (t : ℕ) → t < length system.tasks → length (task_at system t).units ≤ most_steps

-- what the parts of a system hold
abbrev pub AreParts : parts.Inside → Type 0
AreParts p = IsSystem (parts_view p)

-- a task of another core locks the resource
abbrev pub used_elsewhere : ℕ → ℕ → List TaskModel → Bool
used_elsewhere g c tasks = list_any (λ b. uses g b && not (c == b.core)) tasks

-- what is stored is what the system's tasks say
pub record AreTables (s : system.Inside) : Type 0 where
  pub levels : s.levels.items ≡ map (level_of s.parts) s.parts.tasks
  pub tops : s.tops.items ≡ map (top s.parts) (range_with_len 0 s.parts.cores)
  pub ceilings : s.ceilings.items ≡ map (local_ceiling s.parts) (range_with_len 0 (length s.parts.resources))
  pub globals : s.globals.items ≡ map (is_global s.parts) (range_with_len 0 (length s.parts.resources))

-- what a clause sees of a system
abbrev pub system_view : system.Inside → PlanModel
system_view s = s.parts
