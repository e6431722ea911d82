use Rattle.std.proofs.Common.{◌∙◌}
use Rattle.msrp_text.proofs.AheadBytes.{fed-front}
use Rattle.msrp_text.proofs.PlainLines.{csv-begun, csv-fresh}
use Rattle.msrp_text.proofs.lines.Lines.into_records.Goals.{then-rest, else-rest}
use Rattle.msrp_text.proofs.lines.Lines.into_records.Goals as goal

pub returns-clause-left : goal.returns-clause-left
returns-clause-left g c = λ left known. c.new.ensures.left ∙ elim c.if-rest.branch [
  | then-rest w ↦
      let old = c.args.self in
      let front = old.front w.if-rest.true in
      rw (w.rest-is, fed-front old.buffer old.at old.end front old.order old.within) (csv-begun _ _ ∙ (rw w.if-rest.true at known))
  | else-rest w ↦ rw w.rest-is (csv-fresh _ ∙ (rw w.if-rest.false at known))
]
