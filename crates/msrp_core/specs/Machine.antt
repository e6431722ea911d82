-- The machine of one core, and the logs that it stands after.
use Rattle.std.specs.Prelude.{◌∷◌, ◌++◌, ◌+◌, ◌≡◌}
use Rattle.msrp_plan.specs.Common.{ℕ, List, [], Option, Some, None, IfSome, true, map, length, option_or, PlanModel, jobs_on, is_global, JobState, state_after, in_tick, IsCoreTurn}
use Rattle.msrp_core.specs.Common.{Phase, Queued, ResId, Row, Spin, phase_after}

-- one core of a plan between two turns: the next turn's tick, what the core has to do with the
-- global resources, the progress of each job, and the next turn's row if it is known before the
-- choice: whatever a port answers, or if its poll is refused again
pub record MachineModel : Type 0 where
  pub plan : PlanModel
  pub core : ℕ
  pub tick : ℕ
  pub phase : Phase
  pub states : List JobState
  pub again : Option Row
  pub spin : Option Row

-- the known row
abbrev pub next_known : MachineModel → Option Row
next_known m = option_or m.again m.spin

-- a known row of the next turn is this one, a tick later
abbrev pub RepeatsOnly : MachineModel → Row → Type 0
RepeatsOnly m r = IfSome (next_known m) (λ next. next ≡ in_tick m.tick r)

-- the rows of this log leave the core in the machine's state
pub record StandsAfter (m : MachineModel) (log : List Row) : Type 0 where
  pub tick : m.tick ≡ length log
  pub phase : m.phase ≡ phase_after log
  pub states : m.states ≡ map (state_after log) (jobs_on m.plan m.core)

-- one turn, after each log that the machine stands after: the row is the core's next one, and the
-- machine then stands after that log and the row
pub record IsMachineTurn (old new : MachineModel) (r : Row) : Type 0 where
  pub plan : new.plan ≡ old.plan
  pub core : new.core ≡ old.core
  pub tick : new.tick ≡ old.tick + 1
  pub row : (log : List Row) → StandsAfter old log → IsCoreTurn old.plan old.core log r
  pub stands : (log : List Row) → StandsAfter old log → StandsAfter new (log ++ r ∷ [])
  pub again : RepeatsOnly new r

-- the row is a poll, not granted, of the resource that the core awaits
pub record IsRefused (m : MachineModel) (r : Row) : Type 0 where
  pub core : r.core.0 ≡ m.core
  pub res : ResId
  pub awaits : m.phase ≡ Queued res
  pub global : is_global m.plan res.0 ≡ true
  pub resource : r.res ≡ Some res
  pub kind : r.kind ≡ Spin
  pub ahead : r.ahead ≡ None
