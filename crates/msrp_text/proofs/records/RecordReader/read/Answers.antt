use Rattle.std.proofs.Common.{◌∙◌}
use Rattle.msrp_plan.proofs.Common.{sym}
use Rattle.msrp_text.proofs.LineEnds.{csv-empty, csv-taken}
use Rattle.msrp_text.proofs.records.RecordReader.read.Goals as goal

pub returns-in-Ok-Some-clause-line : goal.returns-in-Ok-Some-clause-line
returns-in-Ok-Some-clause-line g c = λ yes bytes number read.
    let front = rw c.in-Ok-Some.field-0-is at c.in-Ok-Some.ensures.line in
    c.take_line.ensures.line _ bytes number front.ended front.plain (c.peek_line.ensures.taken bytes number read.taken)

pub returns-in-Ok-None-2-clause-line : goal.returns-in-Ok-None-2-clause-line
returns-in-Ok-None-2-clause-line g c = λ yes bytes number read.
    let next = c.read_csv.new.self in
    let taken = c.is_at_end.ensures.taken bytes number (c.peek_line.ensures.taken bytes number read.taken) in
    record {
      taken = csv-taken g.R.Read.remaining bytes _ next.way c.read_csv.ensures.csv;
      line = λ empty is some. c.turn.ensures.line bytes number empty taken (sym c.read_csv.ensures.first ∙ (sym (csv-empty next.first next.way c.read_csv.ensures.csv) ∙ is));
    }
