use Rattle.msrp_plan.proofs.Common.{subst}
use Rattle.msrp_text.specs.Lines.{HasRead}
use Rattle.msrp_plan.specs.Bytes.{source_remaining}
use Rattle.msrp_trace.proofs.reading.TraceReader.line_of.Goals as goal

pub returns-clause-known : goal.returns-clause-known
returns-clause-known g c = λ bytes read some fits lines.
    let reader = c.args.self.now in
    c.line_in.ensures.known bytes (subst (λ n. HasRead (λ s. source_remaining g.R.Read.remaining s.now) bytes n reader.records) read.1 read.0) fits lines
