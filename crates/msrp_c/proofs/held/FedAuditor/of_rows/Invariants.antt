use Rattle.msrp_plan.proofs.Common.{take}
use Rattle.msrp_c.specs.Feeding.{IsFed}
use Rattle.msrp_c.proofs.held.FedAuditor.of_rows.Given as goal

abbrev pub invariant-loop-turn : goal.invariant-loop-turn
invariant-loop-turn l = IsFed l.loaded.plan.now (take l.turn-index l.turns) l.fed
