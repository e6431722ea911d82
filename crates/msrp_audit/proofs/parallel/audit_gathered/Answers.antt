use Rattle.std.proofs.Common.{◌∙◌}
use Rattle.msrp_plan.proofs.Common.{ap, take}
use Rattle.msrp_audit.proofs.parallel.audit_gathered.Goals as goal

pub returns : goal.returns
returns g c =
    let rows = c.args.gathered.now in
    c.audit_rows.ensures rows c.len.ensures (c.first-judged.ensures ∙ ap (λ n. take n rows) c.due_rows.ensures.rows)
