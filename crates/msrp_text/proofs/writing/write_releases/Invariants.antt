use Rattle.msrp_plan.proofs.Common.{map, take, Wrote, task_at, listed_ticks}
use Rattle.msrp_text.specs.PlanText.{records_text, release_record}
use Rattle.msrp_text.proofs.writing.write_releases.Given as goal

abbrev pub invariant-loop-k : goal.invariant-loop-k
invariant-loop-k g l = Wrote g.W.Write.contents l.fn.out l.out (records_text (map release_record (take l.k (listed_ticks (task_at l.plan l.task.0).times))))
