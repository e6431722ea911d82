use Rattle.msrp_run.specs.Work.{IsAtWork}
use Rattle.msrp_thread_tests.proofs.run.stepping.driven.Given as goal

abbrev pub invariant-loop-is_one_first : goal.invariant-loop-is_one_first
invariant-loop-is_one_first g l = IsAtWork l.board l._plan 0 l.zero.machine l.zero.log l.zero.seat × IsAtWork l.board l._plan 1 l.one.machine l.one.log l.one.seat
