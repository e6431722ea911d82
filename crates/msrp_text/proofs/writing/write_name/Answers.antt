use Rattle.msrp_plan.proofs.Common.{wrote-more}
use Rattle.msrp_text.proofs.writing.write_name.Goals as goal

pub returns : goal.returns
returns g c = wrote-more _ _ _ _ _ _ c.add.ensures (wrote-more _ _ _ _ _ _ (rw c.as_bytes.ensures.value at c.field.ensures) c.add-2.ensures)
