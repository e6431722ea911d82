use Rattle.std.proofs.Common.{◌≡◌, ◌∙◌}
use Rattle.msrp_plan.proofs.Common.{max, ap, sym, arith, eqb-true, get_or, take_all, ceiling_with}
use Rattle.msrp_events.specs.Changes.{no_job}
use Rattle.msrp_events.specs.LiveJobs.{holds}
use Rattle.msrp_events.specs.Choices.{ceiling}
use Rattle.msrp_event_audit.proofs.Firsts.{ceiling_none, ceiling_more, ceiling_kept}
use Rattle.msrp_event_audit.proofs.choices.ceiling.Goals as goal
use Rattle.msrp_event_audit.proofs.choices.ceiling.Goals.{then-is_on, else-is_on}

pub loop-live-init : goal.loop-live-init
loop-live-init c = sym (ceiling_none c.args.system.now c.args.core.0)

pub loop-live-preserved : goal.loop-live-preserved
loop-live-preserved c =
    let system = c.args.system.now in
    let jobs = c.args.jobs.now in
    let n = c.loop-live.live-index in
    let j = get_or jobs n no_job in
    elim c.if-is_on.branch [
      | then-is_on w ↦
          let own = sym c.is_on.ensures ∙ w.if-is_on.true in
          let by : w.ceiling_after.result ≡ ceiling_with system c.args.core.0 j.waits (λ g. holds system g j) = w.ceiling_after.ensures ∙ ap (λ k. ceiling_with system k j.waits (λ g. holds system g j)) (eqb-true _ c.args.core.0 own) in
          let new : c.if-is_on.highest ≡ max (ceiling_with system c.args.core.0 j.waits (λ g. holds system g j)) c.loop-live.highest = omega (arith, w.highest-is, w.max-highest.ensures, by) in
          new ∙ (ap (max (ceiling_with system c.args.core.0 j.waits (λ g. holds system g j))) c.loop-live.invariant ∙ ceiling_more system jobs c.args.core.0 n no_job c.loop-live-test.true own)
      | else-is_on w ↦ w.highest-is ∙ (c.loop-live.invariant ∙ ceiling_kept system jobs c.args.core.0 n no_job c.loop-live-test.true (sym c.is_on.ensures ∙ w.if-is_on.false))
    ]

pub returns : goal.returns
returns c = c.loop-live.invariant ∙ ap (λ js. ceiling c.args.system.now js c.args.core.0) (take_all c.loop-live.live-index c.args.jobs.now (omega arith))
