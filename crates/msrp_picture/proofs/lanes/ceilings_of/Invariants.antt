use Rattle.std.proofs.Common.{◌≡◌, ◌++◌}
use Rattle.msrp_plan.proofs.Common.{[], take, drop}
use Rattle.msrp_picture.proofs.Common.{HasFed, ceilings}
use Rattle.msrp_picture.proofs.lanes.ceilings_of.Given as goal

abbrev pub invariant-loop-row : goal.invariant-loop-row
invariant-loop-row l = record {
  plan : l.auditor.plan ≡ l.fn.scene.plan.now;
  fed : HasFed l.auditor (take l.row-index l.fn.scene.rows.now);
  all : l.all.items ++ ceilings l.fn.scene.plan.now (take l.row-index l.fn.scene.rows.now) (drop l.row-index l.fn.scene.rows.now) ≡ ceilings l.fn.scene.plan.now [] l.fn.scene.rows.now;
}
