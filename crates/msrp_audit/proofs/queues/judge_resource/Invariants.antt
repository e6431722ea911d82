use Rattle.msrp_plan.proofs.Common.{take}
use Rattle.msrp_plan.specs.Requests.{HasTaken}
use Rattle.msrp_audit.specs.Inside.Pieces.{broken_reply}
use Rattle.msrp_audit.proofs.Scanning.{PassesTo}
use Rattle.msrp_audit.proofs.queues.judge_resource.Given as goal

abbrev pub invariant-loop-index : goal.invariant-loop-index
invariant-loop-index l = record {
  has : HasTaken l.requests l.res.0 (take l.index l.rows);
  passes : PassesTo l.plan (broken_reply l.plan l.res.0) l.rows l.index;
}
