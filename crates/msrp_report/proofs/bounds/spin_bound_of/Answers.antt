use Rattle.std.proofs.Common.{◌≡◌, ◌&&◌, ◌∙◌}
use Rattle.msrp_plan.proofs.Common.{ℕ, List, Bool, cond, map, max, sym, ap, filter, range_with_len, PlanModel, task_at, greatest, uses, is_global, spin_bound}
use Rattle.msrp_report.proofs.LineJobs.{greatest_more, range_next}
use Rattle.msrp_report.proofs.bounds.spin_bound_of.Goals as goal

pub loop-res-preserved : goal.loop-res-preserved
loop-res-preserved c =
    let plan = c.args.plan.now in
    let t = c.args.task.0 in
    let n = c.loop-res.res in
    let f : ℕ → ℕ = λ g. spin_bound plan g (task_at plan t).core in
    let p : ℕ → Bool = λ g. uses g (task_at plan t) && is_global plan g in
    let wait : c.wait_of.result ≡ cond (p n) (f n) 0 =
    c.wait_of.ensures
    ∙ (ap (λ (q : PlanModel). cond (uses n (task_at q t) && is_global q n) (spin_bound q n c.core_of-core.result.0) 0) c.requires.levels
    ∙ ap (λ k. cond (p n) (spin_bound plan n k) 0) c.core_of-core.ensures) in
    c.max-bound.ensures
    ∙ (ap (λ b. max b c.wait_of.result) c.loop-res.invariant
    ∙ (ap (λ w. max (greatest (map f (filter p (range_with_len 0 n)))) w) wait
    ∙ (sym (greatest_more f p (range_with_len 0 n) n) ∙ ap (λ (l : List ℕ). greatest (map f (filter p l))) (sym (range_next n)))))
