-- The units of a task: what is locked, and how locks nest.
use Rattle.std.specs.Prelude.{ℕ, List, [], ◌∷◌, ◌==◌, Bool, false, nat_lt, nat_eq, Option, Some, None, if◌then◌else◌, count_by, fold}
use Rattle.std.specs.List.{list_any}
use Rattle.std.specs.Option.{option_and_then}
use Rattle.msrp_plan.specs.declared.units.Op.{Op}
use Rattle.msrp_plan.specs.declared.units.Op.TheVariants.{Run, Lock, Unlock}

-- the unit locks the resource
abbrev pub is_lock_of : ℕ → Op → Bool
is_lock_of g (Lock r) = r.0 == g
is_lock_of g _ = false

-- the unit unlocks the resource
abbrev pub is_unlock_of : ℕ → Op → Bool
is_unlock_of g (Unlock r) = r.0 == g
is_unlock_of g _ = false

-- how often a resource is locked, and unlocked, in these units
abbrev pub locks : ℕ → List Op → ℕ
locks g us = count_by (is_lock_of g) us

abbrev pub unlocks : ℕ → List Op → ℕ
unlocks g us = count_by (is_unlock_of g) us

-- the resource is locked more often than unlocked in these units
abbrev pub holds_after : List Op → ℕ → Bool
holds_after behind g = nat_lt (unlocks g behind) (locks g behind)

-- the held resources after one more unit, the innermost first: none if the unit locks a held one,
-- or unlocks one that isn't the innermost
abbrev pub held_with : List ℕ → Op → Option (List ℕ)
held_with held Run = Some held
held_with held (Lock r) = if list_any (nat_eq r.0) held then None else Some (r.0 ∷ held)
held_with [] (Unlock r) = None
held_with (g ∷ held) (Unlock r) = if r.0 == g then Some held else None

-- the held resources after these units, the innermost first, if the units nest properly (Baker 1991
-- asks the same of requests and releases)
abbrev pub held_after : List Op → Option (List ℕ)
held_after us = fold (λ held u. option_and_then (λ hs. held_with hs u) held) (Some []) us
