use Rattle.msrp_plan.proofs.Common.{replicate}
use Rattle.msrp_sim.specs.declared.tickets.Tickets.{Tickets}
use Rattle.msrp_sim.proofs.Serving.{drawn_none, same_everywhere, serving_none}
use Rattle.msrp_sim.proofs.tickets.Queues.new.Goals as goal

pub returns-clause-serving : goal.returns-clause-serving
returns-clause-serving c = let none : Tickets = record { next = 0; serving = 0 } in serving_none (record { queues = replicate 32 none; tickets = replicate 8 0 }) (same_everywhere none 32)

pub returns-clause-drawn : goal.returns-clause-drawn
returns-clause-drawn c = let none : Tickets = record { next = 0; serving = 0 } in drawn_none (record { queues = replicate 32 none; tickets = replicate 8 0 }) (same_everywhere none 32)
