use Rattle.msrp_text.proofs.FirstFields.{digit-next}
use Rattle.msrp_text.proofs.records.RecordReader.digit_apart.Goals as goal

pub returns-clause-next : goal.returns-clause-next
returns-clause-next g c = digit-next g.R.Read.remaining c.read_line_ahead.new.self c.args.first.now _ c.digit_after.result c.ahead.ensures c.digit_after.ensures.digit
