-- Stretches: a core's row that repeats in each of the next ticks.
use Rattle.std.specs.Prelude.{ℕ, List, [], ◌∷◌, ◌++◌, Some, false, slice_get, ◌≡◌, ◌<◌, ◌≤◌, ◌+◌}
use Rattle.std.specs.List.{Contains}
use Rattle.msrp_plan.specs.Plan.{PlanModel, release, units}
use Rattle.msrp_plan.specs.Jobs.{jobs_on, is_queued, done}
use Rattle.msrp_plan.specs.Runs.{IsCoreTurn}
use Rattle.msrp_plan.specs.declared.ids.JobId.{JobId}
use Rattle.msrp_plan.specs.declared.units.Op.TheVariants.{Run as RunUnit}
use Rattle.msrp_plan.specs.declared.rows.Kind.TheVariants.{Idle, Run, Spin}
use Rattle.msrp_plan.specs.declared.rows.Row.{Row}

-- the same row in this tick
abbrev pub in_tick : ℕ → Row → Row
in_tick t r = record r { tick = t }

-- no job of the core is released in k ticks from t on
abbrev pub NoneReleased : PlanModel → ℕ → ℕ → ℕ → Type 0
NoneReleased plan c t k = (j : JobId) → Contains (jobs_on plan c) j → t ≤ release plan j → t + k ≤ release plan j

-- the job has k units of work after n units
abbrev pub HasWork : PlanModel → JobId → ℕ → ℕ → Type 0
HasWork plan j n k = (i : ℕ) → n ≤ i → i < n + k → slice_get (units plan j) i ≡ Some RunUnit

-- why the last turn's row, after pre, is the next one k more times: its job works and has that much
-- work left; or the core idles; or the job spins. Unless it spins, no job is released meanwhile
pub data Stays (plan : PlanModel) (c : ℕ) (pre : List Row) (r : Row) (k : ℕ) : Type 0 where
  Works : (j : JobId) → r.kind ≡ Run → r.job ≡ Some j → is_queued pre j ≡ false → HasWork plan j (done j (pre ++ r ∷ [])) k → NoneReleased plan c (r.tick + 1) k → Stays plan c pre r k
  Idles : r.kind ≡ Idle → NoneReleased plan c (r.tick + 1) k → Stays plan c pre r k
  Polls : r.kind ≡ Spin → Stays plan c pre r k

-- the row is the next one, with one repeat less left
abbrev pub StaysAgain : PlanModel → Type 0
StaysAgain plan = (c k : ℕ) (pre : List Row) (r : Row) → IsCoreTurn plan c pre r → Stays plan c pre r (k + 1)
    → IsCoreTurn plan c (pre ++ r ∷ []) (in_tick (r.tick + 1) r) × Stays plan c (pre ++ r ∷ []) (in_tick (r.tick + 1) r) k
