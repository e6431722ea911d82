use Rattle.msrp_plan.specs.Common.{[], IsLegal}
use Rattle.std.proofs.Common.{refl}
use Rattle.msrp_plan.proofs.Lists.Prefixes.{each_before}
use Rattle.msrp_plan.proofs.Runs.Verdicts.{start_last}
use Rattle.msrp_plan.proofs.Queues.QueueLocks.{reply_at, turn_from_log, own_from_legal, agree_at, tells_from_answers, lock_off}
use Rattle.msrp_plan.proofs.definitions.queues_are_locks.Goals as goal

pub returns : goal.returns
returns c = record {
  start = λ plan g. refl;
  calls = λ plan pre r g call ok glob row. record {
    replies = λ start turn h. reply_at plan g pre r call ok glob start.each (turn_from_log plan pre r (own_from_legal plan [] pre start.each) turn) row h;
    answers = λ start tells. (agree_at plan g pre r call ok glob (each_before (IsLegal plan) [] pre _ start.each) (start_last plan pre r start) row tells).answers;
    next = λ start h. (agree_at plan g pre r call ok glob (each_before (IsLegal plan) [] pre _ start.each) (start_last plan pre r start) row (tells_from_answers plan _ _ r.core.0 call h)).next;
  };
  others = λ plan pre r g ok start glob off. lock_off plan g pre r ok glob (each_before (IsLegal plan) [] pre _ start.each) (start_last plan pre r start) off;
}
