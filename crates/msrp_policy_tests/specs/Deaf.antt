-- The port of the tests: one core has a room, and no other.
use Rattle.std.specs.Prelude.{◌==◌, if◌then◌else◌}
use Rattle.msrp_plan.specs.Common.{ℕ, List}
use Rattle.msrp_plan.specs.declared.ids.CoreId.{CoreId}
use Rattle.msrp_core.specs.Ports.{PortModel}
use Rattle.msrp_core.specs.declared.port.PortCall.{PortCall}

abbrev pub deaf_port : CoreId → ℕ → ℕ → List PortCall → PortModel
deaf_port core room resources calls = record { calls = calls; rooms = λ c. (if c == core.0 then room else 0); resources = resources }
