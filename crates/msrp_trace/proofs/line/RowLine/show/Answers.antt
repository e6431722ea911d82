use Rattle.std.proofs.Common.{◌≡◌}
use Rattle.msrp_plan.proofs.Common.{true}
use Rattle.msrp_trace.proofs.Kept.{same_line}
use Rattle.msrp_trace.proofs.line.RowLine.show.Goals as goal

pub returns-else-not-is_of-clause-text : goal.returns-else-not-is_of-clause-text
returns-else-not-is_of-clause-text c =
    let here : c.is_of.result ≡ true = cc in
    same_line c.args.version c.args.plan.now c.args.self.now.row c.args.self.now.text.line c.args.row.now c.requires.before.fits (c.is_of.ensures.kind here) (c.is_of.ensures.place here)
