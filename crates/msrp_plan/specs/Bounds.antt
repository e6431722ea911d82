-- A plan's bounds: how long sections are, how often a job spins, and how long it is blocked.
use Rattle.std.specs.Prelude.{ℕ, List, [], ◌∷◌, Bool, ◌==◌, ◌&&◌, not, nat_lt, if◌then◌else◌, filter, map, max, count_by, length, take, slice_get, Option, Some, ◌+◌}
use Rattle.std.specs.List.{list_any, range_with_len, sum_by}
use Rattle.msrp_plan.specs.Plan.{PlanModel, TaskModel}
use Rattle.msrp_plan.specs.Units.{is_lock_of, is_unlock_of, holds_after}
use Rattle.msrp_plan.specs.Levels.{uses, is_global, greatest}
use Rattle.msrp_plan.specs.Ceiling.{resources}
use Rattle.msrp_plan.specs.declared.units.Op.{Op}
use Rattle.msrp_plan.specs.declared.units.Op.TheVariants.{Lock}

-- ---- spinning

-- the units up to and with the first unlock of the resource
abbrev pub to_unlock : ℕ → List Op → ℕ
to_unlock g [] = 0
to_unlock g (u ∷ us) = if is_unlock_of g u then 1 else 1 + to_unlock g us

-- the longest section on the resource, in units after the lock up to and with the unlock
abbrev pub longest_section : ℕ → List Op → ℕ
longest_section g [] = 0
longest_section g (u ∷ us) = max (if is_lock_of g u then to_unlock g us else 0) (longest_section g us)

-- the longest section on the resource of the tasks of a core
abbrev pub section : PlanModel → ℕ → ℕ → ℕ
section plan g c = greatest (map (λ a. longest_section g a.units) (filter (λ a. a.core == c) plan.tasks))

-- a task of the core uses the resource
abbrev pub is_used_on : PlanModel → ℕ → ℕ → Bool
is_used_on plan g c = list_any (λ a. (a.core == c) && uses g a) plan.tasks

-- the most often that a job of core c spins in one wait for the resource: for each other core that
-- uses it, one handover and its longest section (this bound is the project's own)
abbrev pub spin_bound : PlanModel → ℕ → ℕ → ℕ
spin_bound plan g c = sum_by (λ d. 1 + section plan g d) (filter (λ d. not (d == c) && is_used_on plan g d) (range_with_len 0 plan.cores))

-- ---- blocking
-- a resource is held after the first n units: unit n is in an outermost section, after its lock
abbrev pub in_section : PlanModel → List Op → ℕ → Bool
in_section plan us n = list_any (holds_after (take n us)) (resources plan)

-- the first unit of unit n's outermost section: the last one up to n before which nothing is held
abbrev pub section_start : PlanModel → List Op → ℕ → ℕ
section_start plan us n = greatest (filter (λ i. not (in_section plan us i)) (range_with_len 0 (n + 1)))

-- the units of the outermost section that unit a begins, in order
abbrev pub units_of_section : PlanModel → List Op → ℕ → List ℕ
units_of_section plan us a = filter (λ n. section_start plan us n == a) (range_with_len 0 (length us))

-- the most rows that a job waits at a unit: at a request of a global resource, one to join the
-- queue and one for each possible spin
abbrev pub wait_bound : PlanModel → ℕ → Option Op → ℕ
wait_bound plan c (Some (Lock g)) = if is_global plan g.0 then 1 + spin_bound plan g.0 c else 0
wait_bound plan c _ = 0

-- the most rows of the outermost section that unit a begins, after the first: its units after the
-- lock, and its waits; 0 if the unit begins none
abbrev pub rows_from : PlanModel → TaskModel → ℕ → ℕ
rows_from plan task a =
    let ns = units_of_section plan task.units a in
    count_by (in_section plan task.units) ns + sum_by (λ n. wait_bound plan task.core (slice_get task.units n)) ns

-- the most rows of the task's longest outermost section after the first; 0 if the task has none
abbrev pub out : PlanModel → TaskModel → ℕ
out plan task = greatest (map (rows_from plan task) (range_with_len 0 (length task.units)))

-- the most rows that block a job of the task: one outermost section of a task of the same core with
-- a longer relative deadline (this bound is the project's own)
abbrev pub blocked_bound : PlanModel → TaskModel → ℕ
blocked_bound plan task = greatest (map (out plan) (filter (λ u. (u.core == task.core) && nat_lt task.deadline u.deadline) plan.tasks))
