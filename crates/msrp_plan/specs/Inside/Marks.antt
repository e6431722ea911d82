-- Resources marked in a list of tests, by their numbers: a draft marks the global ones.
use Rattle.std.specs.Prelude.{ℕ, List, Bool, false, not, ◌&&◌, ◌||◌, ◌≡◌, slice_index_or}
use Rattle.msrp_plan.specs.Plan.{PlanModel}
use Rattle.msrp_plan.specs.Levels.{is_global}
use Rattle.msrp_plan.specs.declared.units.Op.{Op}
use Rattle.msrp_plan.specs.declared.units.Op.TheVariants.{Run, Lock, Unlock}

-- the resource has a mark
abbrev pub is_marked : List Bool → ℕ → Bool
is_marked marks g = slice_index_or marks g false

-- just the global resources are marked
abbrev pub AreGlobals : PlanModel → List Bool → Type 0
AreGlobals plan marks = (g : ℕ) → is_marked marks g ≡ is_global plan g

-- the unit locks a marked resource
abbrev pub locks_one : List Bool → Op → Bool
locks_one marks Run = false
locks_one marks (Lock g) = is_marked marks g.0
locks_one marks (Unlock g) = false

-- whether a marked resource is held after the unit, where at most one is held at once
abbrev pub holds_one_after : List Bool → Bool → Op → Bool
holds_one_after marks holding Run = holding
holds_one_after marks holding (Lock g) = holding || is_marked marks g.0
holds_one_after marks holding (Unlock g) = holding && not (is_marked marks g.0)
