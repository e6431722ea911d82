use Rattle.std.proofs.Common.{◌∙◌}
use Rattle.msrp_text.proofs.records.RecordReader.read_line_ahead.Goals as goal

pub loop-self-preserved : goal.loop-self-preserved
loop-self-preserved g c =
    let before = c.loop-self.invariant in
    let next = c.read_ahead.ensures in
    record {
      same = λ left known. next.same left (before.same left known);
      stop = next.stop ∙ before.stop;
      still = λ bytes number read. next.still bytes number (before.still bytes number read);
    }

pub returns-else-read_ahead-clause-still : goal.returns-else-read_ahead-clause-still
returns-else-read_ahead-clause-still g c = λ bytes number read. c.read_ahead.ensures.still bytes number (c.loop-self.invariant.still bytes number read)
