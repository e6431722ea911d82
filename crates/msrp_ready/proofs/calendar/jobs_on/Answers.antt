use Rattle.std.proofs.Common.{◌==◌, ◌∙◌}
use Rattle.msrp_plan.proofs.Common.{sym, ap}
use Rattle.msrp_ready.proofs.Common.{entry}
use Rattle.msrp_ready.proofs.Gathering.{gather_on, gather_off}
use Rattle.msrp_ready.proofs.calendar.jobs_on.Goals as goal
use Rattle.msrp_ready.proofs.calendar.jobs_on.Goals.{then-eq+in_ok-push_jobs, else-eq}

pub loop-t-preserved : goal.loop-t-preserved
loop-t-preserved c =
    let plan = c.args.plan.now in
    elim c.if-eq.branch [
      | then-eq+in_ok-push_jobs w ↦ ap (λ v. v.items) w.jobs-is ∙ gather_on (entry plan) plan c.args.core.0 c.loop-t.t c.loop-t.jobs.items w.push_jobs.new.jobs.items (ap (λ n. n == c.args.core.0) (sym c.core_of.ensures) ∙ sym c.eq.ensures ∙ w.if-eq.true) c.loop-t.invariant w.in_ok-push_jobs.ensures
      | else-eq w ↦ ap (λ v. v.items) w.jobs-is ∙ gather_off (entry plan) plan c.args.core.0 c.loop-t.t c.loop-t.jobs.items (ap (λ n. n == c.args.core.0) (sym c.core_of.ensures) ∙ sym c.eq.ensures ∙ w.if-eq.false) c.loop-t.invariant
    ]
