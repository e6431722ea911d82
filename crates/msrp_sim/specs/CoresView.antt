-- What a clause sees of the cores of a plan, and what their fields hold.
use Rattle.msrp_sim.specs.Cores.{CoresModel, AreCores}
use Rattle.msrp_sim.specs.declared.cores.Cores.TheInside.{Inside}

abbrev pub cores_view : Inside → CoresModel
cores_view c = record { plan = c.plan.now; machines = c.machines.items; queues = c.queues }

abbrev pub AreCoresView : Inside → Type 0
AreCoresView c = AreCores (cores_view c)
