use Rattle.msrp_text.proofs.LineEnds.{first-left, next-in}
use Rattle.msrp_text.proofs.lines.Lines.empty_before.Goals as goal

pub returns-then-begins_record : goal.returns-then-begins_record
returns-then-begins_record g c = λ bytes number empty taken is.
    let lines = c.args.self.now in
    let first = first-left g.R.Read.remaining lines taken.left taken.known c.if-self.true lines.within in
    next-in g.R.Read.remaining lines bytes number empty _ first.0 taken is first.1 (c.begins_record.ensures.record c.if-begins_record.true) (c.begins_record.ensures.mark c.if-begins_record.true)
