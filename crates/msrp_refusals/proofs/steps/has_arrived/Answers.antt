use Rattle.std.proofs.Common.{◌∙◌}
use Rattle.msrp_plan.proofs.Common.{sym}
use Rattle.msrp_board.specs.declared.answers.SeatPhase.TheVariants.{Admitted}
use Rattle.msrp_board.proofs.CoreSeats.{is_in, step_on}
use Rattle.msrp_refusals.proofs.steps.has_arrived.Goals as goal

pub arrive-requires-clause-admitted : goal.arrive-requires-clause-admitted
arrive-requires-clause-admitted c = is_in _ Admitted c.requires.core (λ k b is. sym c.in-Admitted.is ∙ c.phase.ensures.value k b is)

pub returns : goal.returns
returns c = step_on _ _ _ _ c.arrive.ensures c.requires
