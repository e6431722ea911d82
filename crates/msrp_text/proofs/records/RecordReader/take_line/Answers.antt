use Rattle.msrp_plan.proofs.Common.{subst, take}
use Rattle.msrp_text.specs.Ahead.{lines_ahead}
use Rattle.msrp_text.specs.Lines.{HasTaken, HasTakenBy}
use Rattle.msrp_text.specs.Plain.{EndsLine}
use Rattle.msrp_text.specs.Records.{ahead_at}
use Rattle.msrp_text.proofs.records.RecordReader.take_line.Goals as goal

pub returns-clause-line : goal.returns-clause-line
returns-clause-line g c = λ line bytes number ended plain taken.
    let lines = c.in-Lines.lines in
    let here : HasTaken g.R.Read.remaining bytes number lines = subst (λ w. HasTakenBy g.R.Read.remaining bytes number w) c.in-Lines.is taken in
    let whole : EndsLine line (take c.args.count (lines_ahead lines)) = subst (λ w. EndsLine line (take c.args.count (ahead_at w))) c.in-Lines.is ended in
    record {
      taken = c.take.ensures.taken line bytes number whole plain here;
      line = λ empty is some. c.take.ensures.begins line bytes number empty whole plain here is;
    }
