-- How a plan uses one resource.
use Rattle.msrp_plan.specs.Common.{ℕ, List, Bool, map, max, not, length, slice_index_or, false, true, range_with_len, sum_by, PlanModel, local_ceiling, section, spin_bound}
use Rattle.std.specs.Prelude.{◌==◌, ◌&&◌, ◌+◌, ◌<◌, ◌≤◌, ◌≡◌, filter}
use Rattle.msrp_plan.specs.Limits.{most_units}
use Rattle.msrp_levels.specs.Users.{users}
use Rattle.msrp_levels.specs.declared.usage.CoreUse.{CoreUse}
use Rattle.msrp_levels.specs.declared.usage.Usage.{Usage}

-- with one more user, whose longest section is this one
abbrev pub with_user : ℕ → CoreUse → CoreUse
with_user n u = record { used = true; section = max u.section n }

-- how a core uses the resource
abbrev pub core_use_at : List CoreUse → ℕ → CoreUse
core_use_at cores d = slice_index_or cores d (record { used = false; section = 0 })

-- another core, that uses the resource
abbrev pub is_other_user : List CoreUse → ℕ → ℕ → Bool
is_other_user cores c d = not (d == c) && (core_use_at cores d).used

-- for each other core that uses the resource, one handover and its longest section
abbrev pub spin_among : List CoreUse → ℕ → ℕ
spin_among cores c = sum_by (λ d. 1 + (core_use_at cores d).section) (filter (is_other_user cores c) (range_with_len 0 (length cores)))

-- no section is longer than a task's most units
abbrev pub IsShort : CoreUse → Type 0
IsShort u = u.section ≤ most_units

-- the stored use of a resource is what the plan says
pub record IsUsage (plan : PlanModel) (g : ℕ) (u : Usage) : Type 0 where
  pub users : map (λ t. t.0) u.users.items ≡ users plan g
  pub ceiling : u.ceiling ≡ local_ceiling plan g
  pub cores : map (λ x. x.section) u.cores.items ≡ map (section plan g) (range_with_len 0 plan.cores)
  pub spins : u.spins.items ≡ map (spin_bound plan g) (range_with_len 0 plan.cores)

-- the stored use of the first resources is what the plan says
pub record AreUsages (plan : PlanModel) (n : ℕ) (usages : List Usage) : Type 0 where
  pub size : length usages ≡ n
  pub each : (g : ℕ) (d : Usage) → g < n → IsUsage plan g (slice_index_or usages g d)
