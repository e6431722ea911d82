use Rattle.std.proofs.Common.{◌≡◌, ◌++◌, ◌∷◌, ◌∙◌}
use Rattle.msrp_plan.proofs.Common.{[], ap, sym, take, take_more}
use Rattle.msrp_stack.proofs.Common.{each_same}
use Rattle.msrp_stack.proofs.stack.copied_jobs.Goals as goal

pub loop-one-preserved : goal.loop-one-preserved
loop-one-preserved c =
    let v = c.loop-one.invariant in
    let i = c.loop-one.one-index in
    let jobs = c.args.jobs.now in
    let one = c.one-item.result in
    let held : c.in_ok-clone.field-0.items ≡ one.held.items = each_same one.held.items c.in_ok-clone.field-0.items c.in_ok-clone.ensures.cases in
    let same : record { job = one.job; held = c.in_ok-clone.field-0 } ≡ one = ap (λ xs. record { job = one.job; held = record { items = xs } }) held in
    (c.push_reserved.ensures.items ∙ (ap (λ xs. xs ++ record { job = one.job; held = c.in_ok-clone.field-0 } ∷ []) v.0 ∙ (ap (λ x. take i jobs ++ x ∷ []) (same ∙ c.one-item.is) ∙ sym (take_more jobs i one c.loop-one-test.true))), c.push_reserved.ensures.capacity ∙ v.1)
