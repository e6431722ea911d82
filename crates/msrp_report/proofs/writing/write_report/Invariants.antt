use Rattle.std.proofs.Common.{◌++◌}
use Rattle.msrp_plan.proofs.Common.{codes, Wrote}
use Rattle.msrp_report.proofs.Common.{lines_text}
use Rattle.msrp_report.proofs.writing.write_report.Given as goal

abbrev pub invariant-loop-task : goal.invariant-loop-task
invariant-loop-task g l = Wrote g.W.Write.contents l.fn.out l.out (codes "msrp-report,2\n" ++ lines_text l.plan l.report.lines.items l.task)
