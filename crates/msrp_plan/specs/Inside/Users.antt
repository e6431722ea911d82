-- On which cores a resource is used, as one pass over the units of all tasks finds it.
use Rattle.std.specs.Prelude.{ℕ, List, Bool, true, false, ◌&&◌, ◌==◌, ◌≡◌, ◌<◌, slice_index_or}
use Rattle.std.specs.List.{list_any}
use Rattle.msrp_plan.specs.Units.{is_lock_of}
use Rattle.msrp_plan.specs.Limits.{most_resources}
use Rattle.msrp_plan.specs.declared.tasks.Task.{Task}
use Rattle.msrp_plan.specs.declared.users.Users.{Users}
use Rattle.msrp_plan.specs.declared.users.Users.TheVariants.{Nobody, OneCore, Cores}

-- the task is on the core, and uses the resource
abbrev pub is_user_on : ℕ → ℕ → Task → Bool
is_user_on g c task = list_any (is_lock_of g) task.units.items && (task.core.0 == c)

-- one of the tasks is on the core and uses the resource
abbrev pub is_used_on : List Task → ℕ → ℕ → Bool
is_used_on tasks g c = list_any (is_user_on g c) tasks

-- the users of a resource are on these cores: on none, on one alone, or on two at least
abbrev pub AreOn : (ℕ → Bool) → Users → Type 0
AreOn on Nobody = (c : ℕ) → on c ≡ false
AreOn on (OneCore only) = (c : ℕ) → on c ≡ (only.0 == c)
AreOn on Cores = (c : ℕ) × (d : ℕ) × (on c ≡ true) × (on d ≡ true) × ((c == d) ≡ false)

-- the users of each resource are on its cores
abbrev pub EachIsOn : (ℕ → ℕ → Bool) → List Users → Type 0
EachIsOn on users = (g : ℕ) → g < most_resources → AreOn (on g) (slice_index_or users g Nobody)

-- the resource is used on two cores or more
abbrev pub are_on_two : Users → Bool
are_on_two Cores = true
are_on_two _ = false
