use Rattle.msrp_plan.proofs.Common.{decimal}
use Rattle.msrp_trace.proofs.Records.{comma_next}
use Rattle.msrp_trace.proofs.text.Text.next_number.Goals as goal

pub returns-clause-text : goal.returns-clause-text
returns-clause-text g c = cc (comma_next c.args.self.now (decimal c.args.number))
