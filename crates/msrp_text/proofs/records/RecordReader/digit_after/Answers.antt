use Rattle.msrp_plan.proofs.Common.{Some}
use Rattle.msrp_text.proofs.FirstFields.{digit-next}
use Rattle.msrp_text.proofs.records.RecordReader.digit_after.Goals as goal

pub returns-in-Some-clause-next : goal.returns-in-Some-clause-next
returns-in-Some-clause-next g c = digit-next g.R.Read.remaining c.args.self.now c.args.first.now _ (Some c.in-Some.digit) c.ahead-then-ahead-gt-ROW.ensures c.in-Some.ensures.digit
