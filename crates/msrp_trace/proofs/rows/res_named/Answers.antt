use Rattle.std.proofs.Common.{◌≡◌, ◌∙◌}
use Rattle.msrp_plan.proofs.Common.{rules, Some, ap, sym}
use Rattle.msrp_trace.proofs.Names.{same_bytes, res_found, res_unnamed}
use Rattle.msrp_trace.proofs.rows.res_named.Goals as goal

pub returns-then-eq : goal.returns-then-eq
returns-then-eq c =
    let e : c.res_name.result.now ≡ c.args.name.now = search (rules, same_bytes) in
    sym (res_found c.args.plan.now c.args.guess c.args.name.now c.resources.ensures.plan (c.res_name.ensures ∙ ap (λ n. Some n) e))

pub returns-in-Err : goal.returns-in-Err
returns-in-Err c = sym (res_unnamed c.args.plan.now c.args.name.now c.resources.ensures.plan c.in-Err.ensures.cases.0)
