use Rattle.msrp_plan.specs.declared.units.Phase.TheVariants.{Free, Queued, Holding}
use Rattle.msrp_board.proofs.CoreSeats.{step_on}
use Rattle.msrp_refusals.proofs.Readers.{may_step}
use Rattle.msrp_refusals.proofs.steps.step.Goals as goal

pub ask-asked-requires-clause-free : goal.ask-asked-requires-clause-free
ask-asked-requires-clause-free g c = may_step _ _ c.phase.result c.acted-has_acted.result Free c.lock.result c.requires.seat c.phase.ensures.value c.in-Admitted.is c.acted-has_acted.ensures.value c.if-has_acted.false c.lock.ensures.value c.in-Free.is

pub poll-polled-requires-clause-queued : goal.poll-polled-requires-clause-queued
poll-polled-requires-clause-queued g c = (c.in-Queued.field-0, may_step _ _ c.phase.result c.acted-has_acted.result (Queued c.in-Queued.field-0) c.lock.result c.requires.seat c.phase.ensures.value c.in-Admitted.is c.acted-has_acted.ensures.value c.if-has_acted.false c.lock.ensures.value c.in-Queued.is)

pub leave-place-requires-clause-holding : goal.leave-place-requires-clause-holding
leave-place-requires-clause-holding g c = (c.in-Holding.field-0, may_step _ _ c.phase.result c.acted-has_acted.result (Holding c.in-Holding.field-0) c.lock.result c.requires.seat c.phase.ensures.value c.in-Admitted.is c.acted-has_acted.ensures.value c.if-has_acted.false c.lock.ensures.value c.in-Holding.is)

pub returns-in-Free : goal.returns-in-Free
returns-in-Free g c = step_on _ _ _ _ c.ask-asked.ensures.entry c.requires.seat

pub returns-in-Queued : goal.returns-in-Queued
returns-in-Queued g c = step_on _ _ _ _ (c.poll-polled.ensures.entry c.in-Queued.field-0 (may_step _ _ c.phase.result c.acted-has_acted.result (Queued c.in-Queued.field-0) c.lock.result c.requires.seat c.phase.ensures.value c.in-Admitted.is c.acted-has_acted.ensures.value c.if-has_acted.false c.lock.ensures.value c.in-Queued.is)) c.requires.seat

pub returns-in-Holding : goal.returns-in-Holding
returns-in-Holding g c = step_on _ _ _ _ (c.leave-place.ensures.entry c.in-Holding.field-0 (may_step _ _ c.phase.result c.acted-has_acted.result (Holding c.in-Holding.field-0) c.lock.result c.requires.seat c.phase.ensures.value c.in-Admitted.is c.acted-has_acted.ensures.value c.if-has_acted.false c.lock.ensures.value c.in-Holding.is)) c.requires.seat
