use Rattle.std.proofs.Common.{◌≡◌, ◌≤◌}
use Rattle.msrp_plan.proofs.Common.{length, take, IsRunStart}
use Rattle.msrp_audit.specs.Inside.Pieces.{broken_turn}
use Rattle.msrp_audit.specs.Inside.Walks.{AreNextTurns}
use Rattle.msrp_audit.proofs.Scanning.{PassesTo}
use Rattle.msrp_audit.proofs.turns.judge_turns.Given as goal

abbrev pub invariant-loop-index : goal.invariant-loop-index
invariant-loop-index l = record {
  size : length l.next ≡ 8;
  next : l.index ≤ length l.rows → IsRunStart l.plan (take l.index l.rows) → AreNextTurns l.plan l.next (take l.index l.rows);
  passes : PassesTo l.plan (broken_turn l.plan l.part) l.rows l.index;
}
