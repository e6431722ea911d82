use Rattle.msrp_plan.proofs.Common.{IfSome, take}
use Rattle.msrp_report.proofs.Common.{IsFirstOf, IsKnown}
use Rattle.msrp_report.proofs.tallies.active.CoreJobs.first_later.Given as goal

abbrev pub invariant-loop-other : goal.invariant-loop-other
invariant-loop-other l = record {
  known : IfSome l.first (IsKnown l.plan);
  first : IsFirstOf l.plan l.job (take l.other-index l.self.jobs.items) l.first;
}
