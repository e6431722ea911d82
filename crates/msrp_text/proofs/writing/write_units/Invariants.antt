use Rattle.msrp_plan.proofs.Common.{ℕ, List, Wrote, task_at}
use Rattle.msrp_text.proofs.Written.{IsWritten}
use Rattle.msrp_text.proofs.writing.write_units.Given as goal

abbrev pub invariant-loop-place : goal.invariant-loop-place
invariant-loop-place g l = (text : List ℕ) × Wrote g.W.Write.contents l.fn.out l.out text × IsWritten l.plan (task_at l.plan l.task.0).units l.place l.run text
