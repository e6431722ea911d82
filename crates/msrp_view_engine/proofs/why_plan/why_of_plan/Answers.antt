use Rattle.std.proofs.Common.{◌≡◌}
use Rattle.msrp_plan.proofs.Common.{rules, Ok, IfOk, sym, subst}
use Rattle.msrp_view_engine.proofs.Common.{csv_records, plan_found, plan_of}
use Rattle.msrp_view_engine.proofs.why_plan.why_of_plan.Goals as goal

pub returns-in-Ok-clause-found : goal.returns-in-Ok-clause-found
returns-in-Ok-clause-found g c = λ bytes known.
    let all : c.in_ok-bytes.bytes.items ≡ bytes = c.in_ok-bytes.ensures.bytes bytes known in
    let is : plan_of (csv_records bytes) ≡ Ok c.in-Ok.plan = search rules in
    subst (λ read. IfOk c.plan_words.result (λ words. words.found ≡ plan_found read)) (sym is) c.plan_words.ensures.found
