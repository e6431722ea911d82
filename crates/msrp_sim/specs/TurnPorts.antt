-- A port for one turn of one core, and what the turn makes.
use Rattle.std.specs.Prelude.{◌∷◌, ◌++◌, ◌==◌, ◌&&◌, ◌≡◌, ◌+◌, if◌then◌else◌}
use Rattle.msrp_plan.specs.Common.{ℕ, List, [], Bool, true, false, is_none, Option, Some, None, ForSome, is_global, IsCoreTurn, claim_with, IsDueCall, kind_of_call, ahead_of_call}
use Rattle.msrp_plan.specs.declared.rows.Kind.{Kind}
use Rattle.msrp_plan.specs.declared.rows.Kind.TheVariants.{Spin}
use Rattle.msrp_plan.specs.declared.ids.CoreId.{CoreId}
use Rattle.msrp_plan.specs.declared.ids.ResId.{ResId}
use Rattle.msrp_plan.specs.declared.rows.Row.{Row}
use Rattle.msrp_plan.specs.declared.units.Call.{Call}
use Rattle.msrp_plan.specs.declared.units.Call.TheVariants.{Ask, Poll}
use Rattle.msrp_plan.specs.declared.units.Phase.{Phase}
use Rattle.msrp_plan.specs.declared.units.Phase.TheVariants.{Free, Queued, Holding}
use Rattle.msrp_core.specs.Machine.{MachineModel, RepeatsOnly, StandsAfter}
use Rattle.msrp_core.specs.Ports.{PortModel, claim_in, IsQuiet}
use Rattle.msrp_core.specs.declared.port.PortCall.{PortCall}
use Rattle.msrp_sim.specs.Serving.{IsTold, is_served}
use Rattle.msrp_sim.specs.declared.tickets.Queues.{Queues}

-- a call of a core that leaves it so, if it needs one
abbrev pub call_before : ℕ → Phase → List PortCall
call_before c Free = []
call_before c (Queued g) = record { core = record { 0 = c }; res = g; call = Ask 1 } ∷ []
call_before c (Holding g) = record { core = record { 0 = c }; res = g; call = Ask 0 } ∷ []

-- the call of the turn, if there was one
abbrev pub as_calls : Option PortCall → List PortCall
as_calls None = []
as_calls (Some e) = e ∷ []

-- the core may make one more call
abbrev pub port_after : List PortCall → CoreId → ℕ → Option PortCall → PortModel
port_after before core resources call = record { calls = before ++ as_calls call; rooms = λ c. (if (c == core.0) && is_none call then 1 else 0); resources = resources }

-- the core, the number of resources and the call so far
pub record TurnPortModel : Type 0 where
  pub core : CoreId
  pub resources : ℕ
  pub call : Option PortCall

-- a call allowed after the others, and answered from the tickets
pub record IsCallAfter (before : List PortCall) (q : Queues) (e : PortCall) : Type 0 where
  pub turn : IsDueCall (claim_in e.core.0 before) e.res e.call
  pub told : IsTold q e.core.0 e.res.0 e.call

-- the queues are those before the turn, and so is the turn's call
pub record IsTurnPort (before : List PortCall) (first queues : Queues) (call : Option PortCall) : Type 0 where
  pub same : queues ≡ first
  pub made : ForSome call (IsCallAfter before first)

-- no queues
abbrev pub no_queues : Queues
no_queues = record { queues = []; tickets = [] }

-- the call of a turn, which makes the row, is allowed and answered from the tickets
pub record MakesCallOf (q : Queues) (old new : MachineModel) (r : Row) (made : Option PortCall) : Type 0 where
  pub res : ResId
  pub resource : r.res ≡ Some res
  pub global : is_global old.plan res.0 ≡ true
  pub call : Call
  pub is : made ≡ Some (record { core = r.core; res = res; call = call })
  pub kind : r.kind ≡ kind_of_call call
  pub ahead : r.ahead ≡ ahead_of_call call
  pub turn : IsDueCall old.phase res call
  pub told : IsTold q r.core.0 res.0 call
  pub claim : new.phase ≡ claim_with old.phase res call

-- the machine's turn made the row and the call, if it made one
pub record HasTurned (q : Queues) (old new : MachineModel) (r : Row) (made : Option PortCall) : Type 0 where
  pub plan : new.plan ≡ old.plan
  pub core : new.core ≡ old.core
  pub tick : new.tick ≡ old.tick + 1
  pub row : (log : List Row) → StandsAfter old log → IsCoreTurn old.plan old.core log r
  pub stands : (log : List Row) → StandsAfter old log → StandsAfter new (log ++ r ∷ [])
  pub again : RepeatsOnly new r
  pub call : (res : ResId) → r.res ≡ Some res → is_global old.plan res.0 ≡ true → MakesCallOf q old new r made
  pub quiet : IsQuiet old.plan r → (made ≡ None) × (new.phase ≡ old.phase)

-- ---- a turn without a choice
-- the queues grant now what a row of this kind polls
abbrev pub is_granted : Queues → ℕ → Option ResId → Kind → Bool
is_granted q c None kind = false
is_granted q c (Some g) Spin = is_served q c g.0
is_granted q c (Some g) kind = false

-- the known row of a core, or none if it is a poll that the queues grant now
abbrev pub unless_granted : Queues → ℕ → Option Row → Option Row
unless_granted q c None = None
unless_granted q c (Some r) = if is_granted q c r.res r.kind then None else Some r

-- the machine's turn made the row, and no call but a poll that isn't granted
pub record HasRepeated (q : Queues) (old new : MachineModel) (r : Row) : Type 0 where
  pub call : Option PortCall
  pub turned : HasTurned q old new r call
  pub vain : ForSome call (λ e. e.call ≡ Poll false)
