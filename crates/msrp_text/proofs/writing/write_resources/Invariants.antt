use Rattle.msrp_plan.proofs.Common.{map, take, Wrote}
use Rattle.msrp_text.specs.PlanText.{records_text, resource_record}
use Rattle.msrp_text.proofs.writing.write_resources.Given as goal

abbrev pub invariant-loop-res : goal.invariant-loop-res
invariant-loop-res g l = Wrote g.W.Write.contents l.fn.out l.out (records_text (map resource_record (take l.res l.plan.resources)))
