-- Ports: the calls made of a port, one more call, and the row that it makes.
use Rattle.msrp_plan.specs.Common.{ℕ, List, [], false, true, Some, map, ⊤, PlanModel, is_global, ResCall, claim_after, kind_of_call, ahead_of_call}
use Rattle.msrp_core.specs.Common.{CoreId, Phase, ResId, Row}
use Rattle.msrp_plan.specs.declared.units.Call.{Call}
use Rattle.msrp_plan.specs.declared.units.Call.TheVariants.{Ask}
use Rattle.std.specs.Prelude.{◌∷◌, ◌++◌, ◌==◌, ◌≡◌, ◌≢◌, ◌≤◌, ◌+◌, filter}
use Rattle.msrp_core.specs.declared.port.PortCall.{PortCall}
use Rattle.msrp_core.specs.declared.port.Reply.{Reply}
use Rattle.msrp_core.specs.declared.port.Reply.TheVariants.{Taken, Queued}

-- a port: its calls, the oldest first, each core's room for more, and the number of resources
pub record PortModel : Type 0 where
  pub calls : List PortCall
  pub rooms : ℕ → ℕ
  pub resources : ℕ

-- a call with its resource, and with its core
abbrev pub res_call : PortCall → ResCall
res_call e = (e.res, e.call)

abbrev pub core_call : PortCall → ℕ × Call
core_call e = (e.core.0, e.call)

-- the calls of a core, each with its resource
abbrev pub calls_of : ℕ → List PortCall → List ResCall
calls_of c calls = map res_call (filter (λ e. e.core.0 == c) calls)

-- the calls of a resource, each with its core
abbrev pub calls_on : ℕ → List PortCall → List (ℕ × Call)
calls_on g calls = map core_call (filter (λ e. e.res.0 == g) calls)

-- what a core holds or awaits, as its calls say
abbrev pub claim_in : ℕ → List PortCall → Phase
claim_in c calls = claim_after (calls_of c calls)

-- the request with this answer: none is ahead of one that is granted at once
abbrev pub asked : Reply → Call
asked Taken = Ask 0
asked (Queued ahead) = Ask ahead

-- somebody is ahead of a request that is queued
abbrev pub HasAhead : Reply → Type 0
HasAhead Taken = ⊤
HasAhead (Queued ahead) = 1 ≤ ahead

-- one more call of this core and resource: the core may make one less
pub record Adds (core : CoreId) (res : ResId) (call : Call) (old new : PortModel) : Type 0 where
  pub calls : new.calls ≡ old.calls ++ record { core = core; res = res; call = call } ∷ []
  pub room : new.rooms core.0 + 1 ≡ old.rooms core.0
  pub others : (c : ℕ) → c ≢ core.0 → new.rooms c ≡ old.rooms c
  pub resources : new.resources ≡ old.resources

-- the row is the one that a call of its core on its resource makes, which the port has now
pub record MakesCall (plan : PlanModel) (r : Row) (before after : PortModel) : Type 0 where
  pub res : ResId
  pub resource : r.res ≡ Some res
  pub global : is_global plan res.0 ≡ true
  pub call : Call
  pub adds : Adds r.core res call before after
  pub kind : r.kind ≡ kind_of_call call
  pub ahead : r.ahead ≡ ahead_of_call call

-- the row is on no global resource
abbrev pub IsQuiet : PlanModel → Row → Type 0
IsQuiet plan r = (res : ResId) → r.res ≡ Some res → is_global plan res.0 ≡ false
