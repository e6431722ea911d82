use Rattle.std.proofs.Common.{◌∙◌}
use Rattle.msrp_plan.proofs.Common.{arith, refl}
use Rattle.msrp_text.proofs.LineEnds.{none-taken}
use Rattle.msrp_text.proofs.PlainLines.{lines-new}
use Rattle.msrp_text.proofs.records.RecordReader.new.Goals as goal

pub returns-clause-left : goal.returns-clause-left
returns-clause-left g c = lines-new _ _ _ c.new.ensures.begun c.new.ensures.bytes

pub returns-clause-goes : goal.returns-clause-goes
returns-clause-goes g c = refl

pub returns-clause-start : goal.returns-clause-start
returns-clause-start g c = λ bytes known. record {
  taken = none-taken g.R.Read.remaining c.new.result bytes (c.new.ensures.bytes ∙ known) c.new.ensures.begun c.new.ensures.passed;
  line = λ empty is some. absurd (omega (arith, some));
}
