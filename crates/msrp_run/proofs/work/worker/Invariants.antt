use Rattle.msrp_run.proofs.Common.{IsAtWork}
use Rattle.msrp_run.proofs.work.worker.Given as goal

abbrev pub invariant-loop : goal.invariant-loop
invariant-loop g l = (goal.iterator-loop g).can_next l.iterator' × (goal.iterator-loop g).is_finite l.iterator' × IsAtWork l.board l.fn.machine.plan l.fn.machine.core l.machine l.log l.seat
