use Rattle.msrp_plan.specs.Common.{[], cond, length, range_with_len, jobs_of, task_at}
use Rattle.std.proofs.Common.{◌≡◌, ◌==◌, length-append, ap, sym, ◌∙◌, arith}
use Rattle.msrp_plan.proofs.Jobs.JobLists.{jobs_among, jobs_among_more}
use Rattle.msrp_plan.proofs.plans.Plan.jobs_on.Goals as goal
use Rattle.msrp_plan.proofs.plans.Plan.jobs_on.Goals.{then-eq, else-eq}

pub loop-t-preserved : goal.loop-t-preserved
loop-t-preserved c =
    let plan = c.args.self.now in
    let core = c.args.core.0 in
    let t = c.loop-t.t in
    let before = jobs_among plan core (range_with_len 0 t) in
    let v = c.loop-t.invariant in
    let few = v.few in
    let count = v.count in
    let more = ap length (jobs_among_more plan core t) ∙ length-append before (cond ((task_at plan t).core == core) (jobs_of plan t) []) in
    let same : ((task_at plan t).core == core) ≡ c.eq.result = ap (λ n. n == core) (sym c.core_of.ensures) ∙ sym c.eq.ensures in
    elim c.if-eq.branch [
      | then-eq w ↦
          let own = ap (λ b. length (cond b (jobs_of plan t) [])) (same ∙ w.if-eq.true) in
          let size = w.jobs.ensures.count in
          let is = w.jobs-is in
          let fits = w.jobs.type_inv in
          record { count = omega (arith, more, own, size, is, count); few = omega (arith, is, few, fits) }
      | else-eq w ↦
          let own = ap (λ b. length (cond b (jobs_of plan t) [])) (same ∙ w.if-eq.false) in
          let is = w.jobs-is in
          record { count = omega (arith, more, own, is, count); few = omega (arith, is, few) }
    ]
