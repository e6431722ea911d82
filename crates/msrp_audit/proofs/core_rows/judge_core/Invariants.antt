use Rattle.std.proofs.Common.{◌≡◌}
use Rattle.msrp_plan.proofs.Common.{take, log_of, IsRunStart}
use Rattle.msrp_core.specs.Machine.{StandsAfter}
use Rattle.msrp_audit.specs.Inside.Pieces.{broken_on_core}
use Rattle.msrp_audit.proofs.Scanning.{PassesTo}
use Rattle.msrp_audit.proofs.core_rows.judge_core.Given as goal

abbrev pub invariant-loop-index : goal.invariant-loop-index
invariant-loop-index l = record {
  plan : l.machine.plan ≡ l.plan;
  core : l.machine.core ≡ l.core.0;
  stands : IsRunStart l.plan (take l.index l.rows) → StandsAfter l.machine (log_of l.core.0 (take l.index l.rows));
  passes : PassesTo l.plan (broken_on_core l.plan l.core.0) l.rows l.index;
}
