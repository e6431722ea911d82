use Rattle.std.proofs.Common.{◌∙◌}
use Rattle.msrp_plan.proofs.Common.{ap, get_or_read}
use Rattle.msrp_trace.specs.declared.line.RowLine.{RowLine}
use Rattle.msrp_trace.proofs.writing.add_record.Goals as goal

pub returns : goal.returns
returns g c d =
    let at = get_or_read c.args.lines.now c.args.core c.index-lines-core.result c.requires c.index-lines-core.is d in
    let rest = c.text-2.ensures ∙ ap (λ (l : RowLine). l.text.line) at in
    rw rest at (rw c.text.ensures at c.add_both.ensures)
