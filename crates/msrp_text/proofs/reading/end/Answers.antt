use Rattle.msrp_text.proofs.Folding.{taken-ok, taken-refused}
use Rattle.msrp_text.proofs.reading.end.Goals as goal

pub returns-in-Ok : goal.returns-in-Ok
returns-in-Ok c = taken-ok _ _ _ _ c.in-Ok.ensures

pub returns-in-Err : goal.returns-in-Err
returns-in-Err c = rw c.refused.ensures (taken-refused _ _ _ _ c.in-Err.ensures)
