use Rattle.msrp_trace.proofs.Records.{comma_next}
use Rattle.msrp_trace.proofs.text.Text.next.Goals as goal

pub returns-clause-text : goal.returns-clause-text
returns-clause-text g c = cc (comma_next c.args.self.now c.args.field.now)
