use Rattle.msrp_plan.proofs.Writes.{wrote-more}
use Rattle.msrp_plan.proofs.bytes.Sink.field.Goals as goal

pub returns : goal.returns
returns g c = wrote-more _ _ _ _ _ _ c.add.ensures c.add-2.ensures
