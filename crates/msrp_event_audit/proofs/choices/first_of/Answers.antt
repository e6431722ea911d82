use Rattle.std.proofs.Common.{◌∙◌}
use Rattle.msrp_plan.proofs.Common.{Option, Some, ap, sym, subst, arith, get_or, take_all, ForSome, same_Some}
use Rattle.msrp_events.specs.Changes.{no_job}
use Rattle.msrp_events.specs.Choices.{first_of}
use Rattle.msrp_events.specs.declared.states.LiveJob.{LiveJob}
use Rattle.msrp_event_audit.specs.LogJobs.{IsKnown, earlier}
use Rattle.msrp_event_audit.proofs.Firsts.{first_with, first_kept}
use Rattle.msrp_event_audit.proofs.choices.first_of.Goals as goal
use Rattle.msrp_event_audit.proofs.choices.first_of.Goals.{then-is_among, else-is_among}

pub loop-live-preserved : goal.loop-live-preserved
loop-live-preserved c =
    let system = c.args.system.now in
    let jobs = c.args.jobs.now in
    let n = c.loop-live.live-index in
    elim c.if-is_among.branch [
      | then-is_among w ↦ record {
        first = w.first-is ∙ (ap (λ (j : LiveJob). Some j) w.earlier.ensures.value ∙ (ap (λ (o : Option LiveJob). Some (earlier system o (get_or jobs n no_job))) c.loop-live.invariant.first ∙ first_with system jobs c.args.core.0 c.args.started n no_job c.loop-live-test.true (sym c.is_among.ensures ∙ w.if-is_among.true)));
        known = subst (λ (o : Option LiveJob). ForSome o (IsKnown system)) (sym w.first-is) (λ x e. subst (IsKnown system) (same_Some w.earlier.result x e) w.earlier.ensures.known);
      }
      | else-is_among w ↦ record {
        first = w.first-is ∙ (c.loop-live.invariant.first ∙ first_kept system jobs c.args.core.0 c.args.started n no_job c.loop-live-test.true (sym c.is_among.ensures ∙ w.if-is_among.false));
        known = subst (λ (o : Option LiveJob). ForSome o (IsKnown system)) (sym w.first-is) c.loop-live.invariant.known;
      }
    ]

pub returns-clause-value : goal.returns-clause-value
returns-clause-value c = c.loop-live.invariant.first ∙ ap (λ js. first_of c.args.system.now js c.args.core.0 c.args.started) (take_all c.loop-live.live-index c.args.jobs.now (omega arith))
