use Rattle.std.proofs.Common.{◌∙◌}
use Rattle.msrp_plan.proofs.Common.{sym}
use Rattle.msrp_plan.specs.declared.units.Phase.TheVariants.{Queued}
use Rattle.msrp_board.proofs.CoreSeats.{step_on, may_act}
use Rattle.msrp_text_tests.proofs.board.poll.Goals as goal

pub poll-requires-clause-queued : goal.poll-requires-clause-queued
poll-requires-clause-queued g c = (c.in-Queued.field-0, may_act _ (Queued c.in-Queued.field-0) c.requires.1 (λ k b is. sym c.in-Queued.is ∙ c.lock.ensures.value k b is))

pub returns : goal.returns
returns g c = step_on _ _ _ _ (c.poll.ensures.entry c.in-Queued.field-0 (may_act _ (Queued c.in-Queued.field-0) c.requires.1 (λ k b is. sym c.in-Queued.is ∙ c.lock.ensures.value k b is))) c.requires.0
