use Rattle.msrp_plan.proofs.Common.{subst}
use Rattle.msrp_trace.specs.Gathering.{Gathers, WriterModel}
use Rattle.msrp_trace.specs.TraceText.{row_text}
use Rattle.msrp_trace.proofs.Gathered.{gathers-as}
use Rattle.msrp_trace.proofs.Records.{row-is}
use Rattle.msrp_trace.proofs.Shown.{no_line}
use Rattle.msrp_trace.proofs.writing.TraceWriter.row.Goals as goal

pub returns-clause-text : goal.returns-clause-text
returns-clause-text g c =
    let tick = rw c.show.ensures at (c.add_record.ensures no_line) in
    let line = rw (c.show_line.ensures.text no_line) at tick in
    subst (λ (w : WriterModel). Gathers g.W.Write.contents w.text c.args.out.now c.add_record.new.page c.add_record.new.out (row_text w.version w.plan c.args.row.now)) c.self.view_is
    (gathers-as _ _ _ _ _ _ _ (row-is c.self.inside.version c.self.inside.plan.now c.args.row.now) line)
