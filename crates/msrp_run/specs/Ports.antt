-- A core's seat as the port of its machine, and the one step that is made through it.
use Rattle.std.specs.Prelude.{◌≡◌, ◌⊎◌}
use Rattle.msrp_plan.specs.Common.{ℕ, List, [], Option, Some, None, map, ResCall, claim_after, IsDueCall, PlanModel}
use Rattle.msrp_run.specs.Common.{BoardModel, Place, Row, SeatModel, is_poll, with_entry}
use Rattle.msrp_plan.specs.declared.ids.CoreId.{CoreId}
use Rattle.msrp_plan.specs.declared.ids.ResId.{ResId}
use Rattle.msrp_plan.specs.declared.units.Call.{Call}
use Rattle.msrp_board.specs.SeatPorts.{IsPort, port_calls, port_room}
use Rattle.msrp_core.specs.Ports.{PortModel, IsQuiet, MakesCall}
use Rattle.msrp_core.specs.declared.port.PortCall.{PortCall}

-- the calls of one core
abbrev pub calls_by : CoreId → List ResCall → List PortCall
calls_by core calls = map (λ s. record { core = core; res = s.0; call = s.1 }) calls

-- the port of a core's seat: the calls are those of its book, and one more is allowed in a tick
abbrev pub port_of : CoreId → SeatModel → PortModel
port_of core seat = record { calls = calls_by core (port_calls seat core.0); rooms = port_room seat; resources = seat.board.size.resources }

-- what was done through a seat since it was `first`: nothing, or one step, at this place
abbrev pub IsStepSince : ℕ → SeatModel → Option Place → SeatModel → Type 0
IsStepSince c first None seat = seat ≡ first
IsStepSince c first (Some p) seat = (res : ResId) × (call : Call) × (p.polled ≡ is_poll call) × (seat ≡ with_entry res p.number call first) × (port_room seat c ≡ 0) × IsDueCall (claim_after (port_calls first c)) res call

-- what holds of a seat port: its core's seat, let into its tick, which has made at most one step
pub record IsSeatPort (c : ℕ) (first : SeatModel) (board : BoardModel) (core : CoreId) (place : Option Place) (seat : SeatModel) : Type 0 where
  pub of_core : core.0 ≡ c
  pub port : IsPort board c seat
  pub since : IsStepSince c first place seat

-- the seat of a core, and the place of the step that was made through it
pub record SeatPortModel : Type 0 where
  pub core : CoreId
  pub seat : SeatModel
  pub place : Option Place

-- a turn's call of its port: one call, which makes the row, or none on no global resource
abbrev pub HasAsked : PlanModel → Row → PortModel → PortModel → Type 0
HasAsked plan r before after = MakesCall plan r before after ⊎ (IsQuiet plan r × (after ≡ before))

-- a seat of no board
abbrev pub no_seat : SeatModel
no_seat = record {
  board = record {
    table = record { words = 0; slots = 0; views_name = 0; atom = 0; block = 0; offset = 0; slot_names = [] };
    size = record { cores = 0; resources = 0; ticks = 0 };
  };
  books = [];
  conductor = None;
}
