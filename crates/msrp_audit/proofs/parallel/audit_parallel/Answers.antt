use Rattle.std.proofs.Common.{◌≡◌, ◌*◌, ◌∙◌}
use Rattle.msrp_plan.proofs.Common.{ap, arith, min, take, length}
use Rattle.msrp_audit.proofs.Merging.{take_due}
use Rattle.msrp_audit.proofs.parallel.audit_parallel.Goals as goal

pub returns : goal.returns
returns g c =
    let plan = c.args.plan.now in
    let rows = c.args.trace.now.rows.items in
    let a = c.len-rows.ensures in
    let b = c.deref.ensures.len in
    let d = ap length c.deref.ensures.value in
    let size : c.len-rows.result ≡ length rows = omega (arith, a, b, d) in
    let most = c.min.ensures ∙ (ap (λ n. min n c.due_rows.result) size ∙ ap (min (length rows)) c.due_rows.ensures.rows) in
    let judged = c.of-judged.ensures ∙ (ap (take c.min.result) c.deref.ensures.value ∙ take_due rows (plan.cores * plan.ticks) c.min.result most) in
    c.audit_rows.ensures rows size judged
