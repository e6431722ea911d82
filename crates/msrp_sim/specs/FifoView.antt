-- What a clause sees of a port that serves requests in their order, and what its fields hold.
use Rattle.msrp_plan.specs.Common.{length, vec_capacity, All, most_resources, most_rows}
use Rattle.std.specs.Prelude.{◌<◌, ◌≤◌, ◌+◌, sum_by}
use Rattle.msrp_core.specs.Ports.{claim_in}
use Rattle.msrp_sim.specs.Served.{AreFifo, FifoModel, lock_after_calls}
use Rattle.msrp_sim.specs.Serving.{AreDrawn, IsServing}
use Rattle.msrp_sim.specs.declared.fifo.FifoPort.TheInside.{Inside}

abbrev pub fifo_view : Inside → FifoModel
fifo_view p = record { calls = p.calls.items; rooms = p.rooms; resources = p.resources }

pub record IsFifoView (p : Inside) : Type 0 where
  pub fifo : AreFifo p.calls.items
  pub serving : IsServing (lock_after_calls p.calls.items) (λ c. claim_in c p.calls.items) p.queues
  pub drawn : AreDrawn p.queues (length p.calls.items)
  pub resources : p.resources ≤ most_resources
  pub known : All (λ e. e.res.0 < p.resources) p.calls.items
  pub room : length p.calls.items + sum_by (λ n. n) p.rooms ≤ vec_capacity p.calls
  pub size : vec_capacity p.calls ≤ most_rows
