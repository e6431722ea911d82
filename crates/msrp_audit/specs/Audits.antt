-- An auditor, and the rows that it was fed.
use Rattle.msrp_plan.specs.Common.{ℕ, true, false, List, [], Bool, not, nat_lt, Option, Some, None, Ok, Err, length, slice_get, ⊤, IsSomeAnd, PlanModel, IsLegal, had_turn, is_in_turn, fault_in, IsPlan}
use Rattle.msrp_plan.specs.declared.faults.Fault.{Fault}
use Rattle.msrp_plan.specs.declared.rows.Row.{Row}
use Rattle.std.specs.Prelude.{◌∷◌, ◌++◌, ◌&&◌, ◌/◌, ◌≡◌, ◌<◌, ◌≤◌, ◌+◌, ◌-◌, ◌*◌, ◌^◌, if◌then◌else◌, Result}
use Rattle.std.specs.Option.{option_map}
use Rattle.msrp_core.specs.Machine.{MachineModel}
use Rattle.msrp_sim.specs.Cores.{CoresModel, StandFor, IsNextRow, IsAs}
use Rattle.msrp_audit.specs.declared.auditor.Auditor.TheInside.{Inside}

-- the cores after the rows without a fault, the number of these, and the fault after them, if any
pub record AuditorModel : Type 0 where
  pub plan : PlanModel
  pub cores : CoresModel
  pub fed : ℕ
  pub fault : Option Fault

-- these rows were fed: the fault is theirs, and without one the cores stand for them
pub record HasFed (a : AuditorModel) (rows : List Row) : Type 0 where
  pub fault : a.fault ≡ fault_in a.plan rows
  pub stand : a.fault ≡ None → StandFor a.cores rows
  pub count : a.fault ≡ None → a.fed ≡ length rows

-- the core may have its turn now: there is no fault, rows are left, and its turn in the tick isn't
-- over
pub record IsDueInAudit (a : AuditorModel) (c : ℕ) : Type 0 where
  pub fault : a.fault ≡ None
  pub core : c < a.plan.cores
  pub left : a.fed < a.plan.cores * a.plan.ticks
  pub tick : option_map (λ (x : MachineModel). x.tick) (slice_get a.cores.machines c) ≡ Some (a.fed / a.plan.cores)

-- the row isn't in its turn after these, or no turn is left
abbrev pub IsOutOfTurn : PlanModel → List Row → Row → Type 0
IsOutOfTurn plan rows r = length rows < plan.cores * plan.ticks → is_in_turn plan rows r ≡ false

-- these rows were fed and have no fault, and the core had its turn, which made the one legal row:
-- once that row is fed, the cores stand for it too
pub record Awaits (a : AuditorModel) (rows : List Row) (c : ℕ) (due : Row) : Type 0 where
  pub fault : a.fault ≡ None
  pub good : fault_in a.plan rows ≡ None
  pub count : a.fed ≡ length rows
  pub next : IsNextRow a.plan rows c due
  pub tick : due.tick ≡ length rows / a.plan.cores
  pub stand : (row : Row) → IsAs due row → IsLegal a.plan rows row → StandFor a.cores (rows ++ row ∷ [])

-- the row is the next one of the core after these rows: with it they have no fault, and with
-- another one of the core
-- they have one, unless that is as this one
pub record IsDueRow (plan : PlanModel) (rows : List Row) (c : ℕ) (due : Row) : Type 0 where
  pub next : IsNextRow plan rows c due
  pub good : fault_in plan (rows ++ due ∷ []) ≡ None
  pub only : (row : Row) → row.core.0 ≡ c → fault_in plan (rows ++ row ∷ []) ≡ None → (row.tick ≡ due.tick) × IsAs due row

-- the row violates that rule after these rows, which have no fault; in its turn, this was its
-- core's expected row; otherwise the auditor is before it
pub record IsBroken (plan : PlanModel) (rows : List Row) (row : Row) (f : Fault) (due : Option Row) (a : AuditorModel) : Type 0 where
  pub fault : fault_in plan (rows ++ row ∷ []) ≡ Some f
  pub turn : length rows < plan.cores * plan.ticks → is_in_turn plan rows row ≡ true → IsSomeAnd due (IsNextRow plan rows row.core.0)
  pub out : IsOutOfTurn plan rows row → HasFed a rows × (a.fault ≡ None)

-- a fault as an answer: none is good
abbrev pub answer_of : Option Fault → Result ⊤ Fault
answer_of None = Ok tt
answer_of (Some fault) = Err fault

-- the core's turn in the expected tick is still to come after these rows
abbrev pub has_turn : PlanModel → List Row → ℕ → Bool
has_turn plan rows c = nat_lt c plan.cores && not (had_turn c (length rows / plan.cores) rows)

-- ---- the fields
-- the number of rows of the tick so far
abbrev pub place_in : Inside → ℕ
place_in a = a.plan.now.cores - a.left

-- the tick in which the cores may have their turns: none after a fault, and after the last row
abbrev pub due_in : Option Fault → ℕ → ℕ → ℕ
due_in None tick ticks = if nat_lt tick ticks then tick else 2 ^ 32 - 1
due_in (Some fault) tick ticks = 2 ^ 32 - 1

abbrev pub auditor_view : Inside → AuditorModel
auditor_view a = record { plan = a.plan.now; cores = a.cores; fed = a.tick * a.plan.now.cores + place_in a; fault = a.fault }

pub record IsAuditorView (a : Inside) : Type 0 where
  pub accepted : IsPlan a.plan.now
  pub same : a.cores.plan ≡ a.plan.now
  pub some : 0 < a.left
  pub most : a.left ≤ a.plan.now.cores
  pub fits : a.tick * a.plan.now.cores + place_in a ≤ a.plan.now.cores * a.plan.now.ticks
  pub due : a.due ≡ due_in a.fault a.tick a.plan.now.ticks
